-- The document by the lists that a program holds is the picture of the plan; and of an acceptable plan all is there that it asks for.
-- Assumes nothing.
use mathlib.Core.Path.{◌≡◌, refl, sym, ◌∙◌, ap}
use mathlib.Core.Bool.{Bool, true, false, cond}
use mathlib.Core.List.{List, [], ◌∷◌, map}
use Prim.Native.Nat.{ℕ, zero, suc, ◌+◌, ◌-◌, ◌*◌, ◌≤◌, ◌<◌}
use native.Mathlib.Nat.{mul-le-mul}
use native.Mathlib.Omega.{arith}
use borrow.Author.Tests.{lt-ltb, le-ltb}
use lib.ListN.{length, get_or}
use lib.IntN.{ℤ}
use Rattle.ints.specs.Lists.{sum}
use Rattle.ints.proofs.Lists.{get_or-either}
use Rattle.ints.proofs.Ratings.{rating-most, ratings-get}
use Rattle.plan.specs.Plan.{PlanData, vertex_count, is_via, half_width, level_of, height_of, numbers}
use Rattle.plan.specs.Acceptable.{acceptable}
use Rattle.plan.proofs.LimitLaws.{Limits}
use Rattle.plan.proofs.Sound.{sound}
use Rattle.plan.proofs.LevelLaws.{level-high}
use Rattle.passes.specs.State.{position_of}
use Rattle.marks.specs.Marks.{box, bend, line, depth_of, upper_end, lower_end, whole_mark_of}
use Rattle.picture_view.specs.Measure.{measure}
use Rattle.picture_view.specs.View.{view_height}
use Rattle.picture_elements.specs.Elements.{line_of, bend_of, box_of}
use Rattle.picture_elements.specs.inner.Near.{Pen}
use Rattle.picture_marks.specs.Picture.{elements, rating_at, picture_of}
use Rattle.picture_marks.specs.inner.Asked.{DrawnPlan}
use Rattle.picture_marks.specs.inner.Listed.{Stands, segment_line, lines_in, LinesAsked, vertex_bend, bends_in, vertex_box, boxes_in, document_in, DocumentStands}
use Rattle.picture_marks.proofs.Walk.{walked-first, walked-last, walk_same}

-- ---- elements of other kinds are empty
no_line : (u w : ℕ) (via : Bool) (x : ℤ) (y h : ℕ) → line_of u w (cond via (bend x y) (box x y h)) ≡ []
unfolding line_of
no_line u w true x y h = refl
no_line u w false x y h = refl

bend-if : (u n : ℕ) (via : Bool) (x : ℤ) (y w : ℕ) → bend_of u n (cond via (bend x y) (box x y w)) ≡ cond via (bend_of u n (bend x y)) []
unfolding bend_of
bend-if u n true x y w = refl
bend-if u n false x y w = refl

box-if : (u : ℕ) (name : List ℕ) (n : ℕ) (via : Bool) (x : ℤ) (y w : ℕ) → box_of u name n (cond via (bend x y) (box x y w)) ≡ cond via [] (box_of u name n (box x y w))
unfolding box_of
box-if u name n true x y w = refl
box-if u name n false x y w = refl

module _ (p : PlanData) (xs : List ℤ) where
  -- the mark of vertex n, and of the segment that comes k-th after the vertices
  vertex-mark : (n : ℕ) → n < vertex_count p → whole_mark_of p xs n ≡ cond (is_via p n) (bend (position_of xs n) (depth_of p n)) (box (position_of xs n) (depth_of p n) (half_width p n))
  unfolding whole_mark_of
  vertex-mark n h = rw (lt-ltb n (vertex_count p) h)

  segment-mark : (k : ℕ) → whole_mark_of p xs (vertex_count p + k)
      ≡ line (position_of xs (upper_end p k)) (depth_of p (upper_end p k)) (position_of xs (lower_end p k)) (depth_of p (lower_end p k))
  unfolding whole_mark_of
  segment-mark k =
      let e : vertex_count p + k - vertex_count p ≡ k = omega arith in
      rw (le-ltb (vertex_count p + k) (vertex_count p) (omega arith), e)

  rating-is : (k : ℕ) → k < length p.ratings → rating_at p (vertex_count p + k) ≡ get_or p.ratings k 0
  rating-is k h =
      let e : vertex_count p + k - vertex_count p ≡ k = omega arith in
      rw e (get_or-either p.ratings k 1 0 h)

  later : (n : ℕ) → vertex_count p ≤ n → vertex_count p + (n - vertex_count p) ≡ n
  later n h = omega arith

  no-bend : (u n : ℕ) → vertex_count p ≤ n → bend_of u n (whole_mark_of p xs n) ≡ []
  unfolding bend_of
  no-bend u n h = ap (λ (k : ℕ). bend_of u n (whole_mark_of p xs k)) (sym (later n h)) ∙ rw (segment-mark (n - vertex_count p))

  no-box : (u : ℕ) (name : List ℕ) (n : ℕ) → vertex_count p ≤ n → box_of u name n (whole_mark_of p xs n) ≡ []
  unfolding box_of
  no-box u name n h = ap (λ (k : ℕ). box_of u name n (whole_mark_of p xs k)) (sym (later n h)) ∙ rw (segment-mark (n - vertex_count p))

  module _ (heights : List ℕ) (stands : (v : ℕ) → v < vertex_count p → depth_of p v ≡ get_or heights v 0) where
    lines_are : (upper : (k : ℕ) → k < length p.uppers → upper_end p k < vertex_count p) (lower : (k : ℕ) → k < length p.uppers → lower_end p k < vertex_count p)
        → length p.ratings ≡ length p.uppers
        → (u : ℕ) → elements p xs (λ n m. line_of u (rating_at p n) m) ≡ lines_in u heights p.uppers p.lowers p.ratings xs
    lines_are upper lower long u =
        let f : ℕ → List ℕ = λ n. line_of u (rating_at p n) (whole_mark_of p xs n) in
        walked-last f (vertex_count p) (length p.uppers) (λ i h. rw (vertex-mark i h) (no_line u (rating_at p i) (is_via p i) (position_of xs i) (depth_of p i) (half_width p i)))
        ∙ walk_same f (segment_line u heights p.uppers p.lowers p.ratings xs) (vertex_count p) 0 (length p.uppers) (λ i h. each i h)
      where
        each : (i : ℕ) → i < length p.uppers
            → line_of u (rating_at p (vertex_count p + i)) (whole_mark_of p xs (vertex_count p + i)) ≡ segment_line u heights p.uppers p.lowers p.ratings xs (0 + i)
        each i h =
            let z : 0 + i ≡ i = omega arith in
            rw (rating-is i (omega (arith, long)), segment-mark i, stands (upper_end p i) (upper i h), stands (lower_end p i) (lower i h), z)

    bends-are : (u : ℕ) → elements p xs (λ n m. bend_of u n m) ≡ bends_in u heights p.vias xs
    bends-are u =
        let f : ℕ → List ℕ = λ n. bend_of u n (whole_mark_of p xs n) in
        walked-first f (vertex_count p) (length p.uppers) (λ i h k. no-bend u i h)
        ∙ walk_same f (vertex_bend u heights p.vias xs) 0 0 (vertex_count p) (λ i h. each i h)
      where
        each : (i : ℕ) → i < vertex_count p → bend_of u (0 + i) (whole_mark_of p xs (0 + i)) ≡ vertex_bend u heights p.vias xs (0 + i)
        each i h =
            let z : 0 + i ≡ i = omega arith in
            rw (z, vertex-mark i h, stands i h) (bend-if u i (is_via p i) (position_of xs i) (get_or heights i 0) (half_width p i))

    boxes-are : (u : ℕ) (names : List (List ℕ)) (name : ℕ → List ℕ) → ((v : ℕ) → v < vertex_count p → get_or names v [] ≡ name v)
        → elements p xs (λ n m. box_of u (get_or names n []) n m) ≡ boxes_in u heights p.vias p.halves xs name
    boxes-are u names name same =
        let f : ℕ → List ℕ = λ n. box_of u (get_or names n []) n (whole_mark_of p xs n) in
        walked-first f (vertex_count p) (length p.uppers) (λ i h k. no-box u (get_or names i []) i h)
        ∙ walk_same f (vertex_box u heights p.vias p.halves xs name) 0 0 (vertex_count p) (λ i h. each i h)
      where
        each : (i : ℕ) → i < vertex_count p → box_of u (get_or names (0 + i) []) (0 + i) (whole_mark_of p xs (0 + i)) ≡ vertex_box u heights p.vias p.halves xs name (0 + i)
        each i h =
            let z : 0 + i ≡ i = omega arith in
            rw (z, vertex-mark i h, stands i h, same i h) (box-if u (name i) i (is_via p i) (position_of xs i) (get_or heights i 0) (half_width p i))

    -- ---- the whole document
    pub picture-is : acceptable p ≡ true → (names : List (List ℕ)) (name : ℕ → List ℕ) → ((v : ℕ) → v < vertex_count p → get_or names v [] ≡ name v)
        → picture_of p xs names ≡ document_in (measure p) (view_height p) heights p.vias p.halves p.uppers p.lowers p.ratings xs name
    unfolding picture_of
    picture-is ok names name same =
        let S = sound p ok in
        rw (
          lines_are S.ends.upper (λ k h. S.ends.lower k (omega (arith, S.limits.ends_long))) S.limits.ratings_long (measure p),
          bends-are (measure p),
          boxes-are (measure p) names name same,
        )

-- ---- what it asks for
pub line-pen : {u : ℕ} {heights uppers lowers ratings : List ℕ} {xs : List ℤ} → LinesAsked u heights uppers lowers ratings xs → (k : ℕ) → k < length uppers
    → Pen u (get_or ratings k 0)
line-pen {ratings = ratings} l k h = (l.measure, rating-most (get_or ratings k 0) (ratings-get ratings k l.in_range (omega (arith, l.rated))))

measure-high : (p : PlanData) → measure p ≤ p.spacing
unfolding measure
measure-high p = omega arith

measure-low : (p : PlanData) → 1 ≤ p.spacing → 1 ≤ p.gap → 1 ≤ measure p
unfolding measure
measure-low p s g = omega arith

some-vertex : (sizes : List ℕ) → 1 ≤ length sizes → ((k : ℕ) → k < length sizes → 1 ≤ get_or sizes k 0) → 1 ≤ sum sizes
unfolding sum
some-vertex [] h low = absurd (omega arith)
some-vertex (n ∷ ns) h low = omega (arith, low 0 (omega arith))

module _ (p : PlanData) (xs : List ℤ) (a : DrawnPlan p xs) where
  abbrev limits : Limits p
  limits = (sound p a.plan).limits

  depth_low : (v : ℕ) → v < vertex_count p → depth_of p v ≤ 630000
  unfolding height_of level_of
  depth_low v h =
      let few : level_of p v - 1 ≤ 63 = omega (arith, level-high p.sizes v (omega (arith, limits.sizes_sum)), limits.sizes_long, limits.levels_high) in
      let low : p.spacing * (level_of p v - 1) ≤ 10000 * 63 = mul-le-mul limits.spacing_high few in
      omega arith

  pub view-low : view_height p ≤ 640000
  unfolding height_of
  view-low =
      let few : p.levels - 1 ≤ 63 = omega (arith, limits.levels_high) in
      let low : p.spacing * (p.levels - 1) ≤ 10000 * 63 = mul-le-mul limits.spacing_high few in
      omega (arith, measure-high p, limits.spacing_high)

  pub document-stands : (heights : List ℕ) → length heights ≡ vertex_count p → ((v : ℕ) → v < vertex_count p → depth_of p v ≡ get_or heights v 0)
      → DocumentStands (measure p) (view_height p) heights p.vias p.halves p.uppers p.lowers p.ratings xs
  document-stands heights e stands =
      let S = sound p a.plan in
      let l = limits in
      let m : measure p ≤ 10000 = omega (arith, measure-high p, l.spacing_high) in
      let s : Stands heights xs = record {
        long = omega (arith, a.positions);
        few = omega (arith, a.positions, l.vertices);
        low = λ v h. low v (omega (arith, a.positions));
        within = a.within;
      } in
      record {
        opening = record {
          edged = record {
            some = omega (arith, a.positions, l.sizes_sum, some-vertex p.sizes (omega (arith, l.levels_low, l.sizes_long)) l.sizes_low);
            widths = omega (arith, a.positions, l.halves_long);
            narrow = l.halves_high;
            within = a.within;
          };
          measure = m;
          high = view-low;
        };
        lines = record {
          measure = m;
          stands = s;
          ends = l.ends_long;
          upper = λ k h. omega (arith, S.ends.upper k h, a.positions);
          lower = λ k h. omega (arith, S.ends.lower k h, a.positions);
          rated = l.ratings_long;
          in_range = l.ratings;
        };
        boxes = record {
          bends = record { measure = m; stands = s; kinds = sym a.positions };
          some = measure-low p l.spacing_low l.gap_low;
          widths = l.halves_long;
          wide = l.halves_box;
          narrow = l.halves_high;
        };
      }
    where
      low : (v : ℕ) → v < vertex_count p → get_or heights v 0 ≤ 630000
      low v h = omega (arith, stands v h, depth_low v h)

-- ---- a list of what a function gives
given-from : {A : Type 0} (f : ℕ → A) (d : A) (a n v : ℕ) → v < n → get_or (map f (numbers a n)) v d ≡ f (a + v)
unfolding numbers
given-from f d a zero v h = absurd (omega arith)
given-from f d a (suc n) zero h = let e : a + 0 ≡ a = omega arith in rw e
given-from f d a (suc n) (suc v) h = let e : a + suc v ≡ a + 1 + v = omega arith in rw e (given-from f d (a + 1) n v (omega arith))

pub given-at : {A : Type 0} (f : ℕ → A) (d : A) (n v : ℕ) → v < n → get_or (map f (numbers 0 n)) v d ≡ f v
given-at f d n v h = let e : 0 + v ≡ v = omega arith in rw e at (given-from f d 0 n v h)
