-- The limits of a plan: the tests of `limits_hold` one by one, and what they say, as plain facts. Assumes nothing.
use mathlib.Core.Path.{◌≡◌, refl, sym, ap}
use mathlib.Core.Bool.{Bool, true, false, false≢true, true≢false}
use mathlib.Core.List.{List, [], ◌∷◌}
use Prim.Native.Nat.{ℕ, zero, suc, ◌≤◌, ◌<◌}
use native.Mathlib.Omega.{arith}
use borrow.Author.Tests.{leb-true, le-leb, eqb-true, eq-eqb}
use lib.Dec.{leb, eqb}
use lib.ListN.{length, get_or, get_or-eq_default}
use Rattle.ints.proofs.Laws.{cases}
use Rattle.ints.specs.Lists.{sum}
use Rattle.ints.specs.Ratings.{all_ratings}
use Rattle.plan.specs.Plan.{PlanData, vertex_count, is_via, half_width}
use Rattle.plan.specs.Limits.{within, max_levels, max_gap, max_spacing, max_half_width, max_on_level, max_vertices, max_segments}
use Rattle.plan.specs.Checks.{every}
use Rattle.plan.specs.inner.Graph.{InLimits}
use Rattle.plan.specs.Acceptable.{half_holds, halves_hold, limits_hold}
use Rattle.ints.proofs.Tests.{and_left, and_right, cond-left, cond-right, conj-at, ◌and◌}

-- ---- test by test
pub record LimitTests (p : PlanData) : Type 0 where
  pub levels : within 1 max_levels p.levels ≡ true
  pub gap : within 1 max_gap p.gap ≡ true
  pub spacing : within 1 max_spacing p.spacing ≡ true
  pub counted : length p.sizes ≡ p.levels
  pub sizes : every (within 1 max_on_level) p.sizes ≡ true
  pub summed : sum p.sizes ≡ length p.vias
  pub vertices : length p.vias ≤ max_vertices
  pub halves : halves_hold p.vias p.halves ≡ true
  pub ends : length p.lowers ≡ length p.uppers
  pub segments : length p.uppers ≤ max_segments
  pub rated : length p.ratings ≡ length p.uppers
  pub ratings : all_ratings p.ratings ≡ true

-- the tests of `limits_hold` after the first
abbrev further_limits : PlanData → List Bool
further_limits p =
    within 1 max_gap p.gap ∷ within 1 max_spacing p.spacing
    ∷ eqb (length p.sizes) p.levels ∷ every (within 1 max_on_level) p.sizes ∷ eqb (sum p.sizes) (vertex_count p)
    ∷ leb (vertex_count p) max_vertices ∷ halves_hold p.vias p.halves
    ∷ eqb (length p.lowers) (length p.uppers) ∷ leb (length p.uppers) max_segments
    ∷ eqb (length p.ratings) (length p.uppers) ∷ all_ratings p.ratings ∷ []

pub limit-tests : (p : PlanData) → limits_hold p ≡ true → LimitTests p
unfolding limits_hold
limit-tests p h =
    let test = conj-at (within 1 max_levels p.levels) (further_limits p) h in
    record {
      levels = test 0;
      gap = test 1;
      spacing = test 2;
      counted = eqb-true (length p.sizes) p.levels (test 3);
      sizes = test 4;
      summed = eqb-true (sum p.sizes) (vertex_count p) (test 5);
      vertices = leb-true (vertex_count p) max_vertices (test 6);
      halves = test 7;
      ends = eqb-true (length p.lowers) (length p.uppers) (test 8);
      segments = leb-true (length p.uppers) max_segments (test 9);
      rated = eqb-true (length p.ratings) (length p.uppers) (test 10);
      ratings = test 11;
    }

pub limits-hold : (p : PlanData) → LimitTests p → limits_hold p ≡ true
unfolding limits_hold
limits-hold p h =
    h.levels and h.gap and h.spacing
    and eq-eqb (length p.sizes) p.levels h.counted and h.sizes and eq-eqb (sum p.sizes) (vertex_count p) h.summed
    and le-leb (vertex_count p) max_vertices h.vertices and h.halves
    and eq-eqb (length p.lowers) (length p.uppers) h.ends and le-leb (length p.uppers) max_segments h.segments
    and eq-eqb (length p.ratings) (length p.uppers) h.rated and h.ratings

-- ---- as plain facts
pub within-least : (lo hi n : ℕ) → within lo hi n ≡ true → lo ≤ n
within-least lo hi n h = leb-true lo n (and_left (leb lo n) (leb n hi) h)

pub within-most : (lo hi n : ℕ) → within lo hi n ≡ true → n ≤ hi
within-most lo hi n h = leb-true n hi (and_right (leb lo n) (leb n hi) h)

size-within : (ns : List ℕ) (k : ℕ) → every (within 1 max_on_level) ns ≡ true → k < length ns → within 1 max_on_level (get_or ns k 0) ≡ true
unfolding every
size-within [] k e h = absurd (omega arith)
size-within (n ∷ ns) zero e h = cond-left (within 1 max_on_level n) (every (within 1 max_on_level) ns) e
size-within (n ∷ ns) (suc k) e h = size-within ns k (cond-right (within 1 max_on_level n) (every (within 1 max_on_level) ns) e) (omega arith)

pub halves_long : (vs : List Bool) (hs : List ℕ) → halves_hold vs hs ≡ true → length hs ≡ length vs
unfolding halves_hold
halves_long [] [] e = refl
halves_long [] (h ∷ hs) e = absurd (false≢true e)
halves_long (b ∷ vs) [] e = absurd (false≢true e)
halves_long (b ∷ vs) (h ∷ hs) e = ap suc (halves_long vs hs (cond-right (half_holds b h) (halves_hold vs hs) e))

half_at : (vs : List Bool) (hs : List ℕ) (v : ℕ) → halves_hold vs hs ≡ true → v < length vs → half_holds (get_or vs v false) (get_or hs v 0) ≡ true
unfolding halves_hold
half_at [] hs v e h = absurd (omega arith)
half_at (b ∷ vs) [] v e h = absurd (false≢true e)
half_at (b ∷ vs) (x ∷ hs) zero e h = cond-left (half_holds b x) (halves_hold vs hs) e
half_at (b ∷ vs) (x ∷ hs) (suc v) e h = half_at vs hs v (cond-right (half_holds b x) (halves_hold vs hs) e) (omega arith)

half_high : (b : Bool) (h : ℕ) → half_holds b h ≡ true → h ≤ max_half_width
half_high true h e = omega (arith, eqb-true h 0 e)
half_high false h e = within-most 1 max_half_width h e

half-via : (b : Bool) (h : ℕ) → half_holds b h ≡ true → b ≡ true → h ≡ 0
half-via true h e t = eqb-true h 0 e
half-via false h e t = absurd (false≢true t)

half-box : (b : Bool) (h : ℕ) → half_holds b h ≡ true → b ≡ false → 1 ≤ h
half-box true h e t = absurd (true≢false t)
half-box false h e t = within-least 1 max_half_width h e

pub record Limits (p : PlanData) : Type 0 where
  pub levels_low : 1 ≤ p.levels
  pub levels_high : p.levels ≤ max_levels
  pub gap_low : 1 ≤ p.gap
  pub gap_high : p.gap ≤ max_gap
  pub spacing_low : 1 ≤ p.spacing
  pub spacing_high : p.spacing ≤ max_spacing
  pub sizes_long : length p.sizes ≡ p.levels
  pub sizes_low : (k : ℕ) → k < length p.sizes → 1 ≤ get_or p.sizes k 0
  pub sizes_high : (k : ℕ) → get_or p.sizes k 0 ≤ max_on_level
  pub sizes_sum : sum p.sizes ≡ vertex_count p
  pub vertices : vertex_count p ≤ max_vertices
  pub halves_long : length p.halves ≡ vertex_count p
  pub halves_high : (v : ℕ) → half_width p v ≤ max_half_width
  pub halves_via : (v : ℕ) → is_via p v ≡ true → half_width p v ≡ 0
  pub halves_box : (v : ℕ) → v < vertex_count p → is_via p v ≡ false → 1 ≤ half_width p v
  pub ends_long : length p.lowers ≡ length p.uppers
  pub segments : length p.uppers ≤ max_segments
  pub ratings_long : length p.ratings ≡ length p.uppers
  pub ratings : all_ratings p.ratings ≡ true
  -- as the checks of the graph ask it
  pub lists : InLimits p.sizes p.vias p.uppers p.lowers

pub limits : (p : PlanData) → limits_hold p ≡ true → Limits p
limits p q =
    let t = limit-tests p q in
    let half : (v : ℕ) → v < length p.vias → half_holds (is_via p v) (half_width p v) ≡ true = λ v h. half_at p.vias p.halves v t.halves h in
    let long = halves_long p.vias p.halves t.halves in
    let high = within-most 1 max_levels p.levels t.levels in
    record {
      levels_low = within-least 1 max_levels p.levels t.levels;
      levels_high = high;
      gap_low = within-least 1 max_gap p.gap t.gap;
      gap_high = within-most 1 max_gap p.gap t.gap;
      spacing_low = within-least 1 max_spacing p.spacing t.spacing;
      spacing_high = within-most 1 max_spacing p.spacing t.spacing;
      sizes_long = t.counted;
      sizes_low = λ k h. within-least 1 max_on_level (get_or p.sizes k 0) (size-within p.sizes k t.sizes h);
      sizes_high = λ k. cases (length p.sizes) k (λ h. omega (arith, get_or-eq_default p.sizes 0 h))
          (λ h. within-most 1 max_on_level (get_or p.sizes k 0) (size-within p.sizes k t.sizes h));
      sizes_sum = t.summed;
      vertices = t.vertices;
      halves_long = long;
      halves_high = λ v. cases (length p.halves) v (λ h. omega (arith, get_or-eq_default p.halves 0 h)) (λ h. half_high (is_via p v) (half_width p v) (half v (omega arith)));
      halves_via = λ v e. cases (length p.halves) v (λ h. get_or-eq_default p.halves 0 h) (λ h. half-via (is_via p v) (half_width p v) (half v (omega arith)) e);
      halves_box = λ v h e. half-box (is_via p v) (half_width p v) (half v h) e;
      ends_long = t.ends;
      segments = t.segments;
      ratings_long = t.rated;
      ratings = t.ratings;
      lists = record { levels = omega (arith, t.counted); vertices = t.vertices; segments = t.segments; ends = sym t.ends };
    }
