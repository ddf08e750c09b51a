-- What checks 3 to 6 have to do with each other: by check 3 every end is a vertex, and all four ask about the graph alone.
-- Assumes nothing.
use Prim.Native.Nat.{ℕ, zero, suc, ◌+◌, ◌<◌}
use mathlib.Core.Path.{◌≡◌, refl, sym, ◌∙◌, ap}
use mathlib.Core.Bool.{Bool, true, not, ◌&&◌}
use mathlib.Core.List.{List, [], ◌∷◌}
use native.Mathlib.Omega.{arith}
use borrow.Author.Tests.{ltb-true, eqb-true, not-false}
use lib.Dec.{ltb, eqb}
use lib.ListN.{length, get_or}
use Rattle.ints.specs.Lists.{chosen}
use Rattle.ints.specs.Refusals.{Test, check, first_refusal, none_refuses}
use Rattle.plan.specs.Plan.{PlanData, vertex_count, level_of}
use Rattle.plan.specs.Segments.{Segment, segments_from, segments_of, inner_in, inner_segments}
use Rattle.plan.specs.Checks.{every, any, goes_one_down, check3, check4, is_through, check5, crosses, check6, checks_of}
use Rattle.plan.specs.Walk.{inner_below, walk_from, walk}
use Rattle.plan.specs.inner.Graph.{graph_of, segment, Within, InLimits}
use Rattle.ints.proofs.Refusals.{none-at, two-pass, two_none, refusal-early, refusal-late}
use Rattle.ints.proofs.Tests.{and_left, and_right, cond-left, cond-right}

-- ---- a segment joins two vertices, the lower one level below
module _ (p : PlanData) where
  pub record Down (s : Segment) : Type 0 where
    pub upper_in : s.upper < vertex_count p
    pub lower_in : s.lower < vertex_count p
    pub one_down : level_of p s.lower ≡ level_of p s.upper + 1

  pub down-of : (s : Segment) → goes_one_down p s ≡ true → Down s
  down-of s e =
      let up = ltb s.upper (vertex_count p) in let low = ltb s.lower (vertex_count p) in
      let one = eqb (level_of p s.lower) (level_of p s.upper + 1) in
      record {
        upper_in = ltb-true s.upper (vertex_count p) (and_left up low (and_left (up && low) one e));
        lower_in = ltb-true s.lower (vertex_count p) (and_right up low (and_left (up && low) one e));
        one_down = eqb-true (level_of p s.lower) (level_of p s.upper + 1) (and_right (up && low) one e);
      }

  below_both : («as» bs : List ℕ) → length «as» ≡ length bs → every (goes_one_down p) (segments_from «as» bs) ≡ true
      → (i : ℕ) → i < length «as» → (get_or «as» i 0 < vertex_count p) × (get_or bs i 0 < vertex_count p)
  unfolding every segments_from
  below_both [] bs e t i h = absurd (omega arith)
  below_both (a ∷ «as») [] e t i h = absurd (omega arith)
  below_both (a ∷ «as») (b ∷ bs) e t zero h =
      let d = down-of (segment a b) (cond-left (goes_one_down p (segment a b)) (every (goes_one_down p) (segments_from «as» bs)) t) in
      (d.upper_in, d.lower_in)
  below_both (a ∷ «as») (b ∷ bs) e t (suc i) h =
      below_both «as» bs (omega arith) (cond-right (goes_one_down p (segment a b)) (every (goes_one_down p) (segments_from «as» bs)) t) i (omega arith)

pub within_of : (sizes : List ℕ) (vias : List Bool) («as» bs : List ℕ) → InLimits sizes vias «as» bs → check3 (graph_of sizes vias «as» bs) ≡ true → Within vias «as» bs
unfolding check3 segments_of
within_of sizes vias «as» bs l c = record {
  vertices = l.vertices;
  segments = l.segments;
  ends = l.ends;
  upper = λ i h. (below_both (graph_of sizes vias «as» bs) «as» bs l.ends c i h).0;
  lower = λ i h. (below_both (graph_of sizes vias «as» bs) «as» bs l.ends c i (omega arith)).1;
}

-- ---- the checks that a plan passes, one by one
pub record Checked (p : PlanData) : Type 0 where
  pub three : check3 p ≡ true
  pub four : check4 p ≡ true
  pub five : check5 p ≡ true
  pub six : check6 p ≡ true

pub checked : (p : PlanData) → none_refuses (checks_of p) ≡ true → Checked p
unfolding checks_of
checked p e =
    let pass = none-at (checks_of p) e in
    record {
      three = not-false (check3 p) (pass 0);
      four = not-false (check4 p) (pass 1);
      five = not-false (check5 p) (pass 2);
      six = not-false (check6 p) (pass 3);
    }

pub checks-pass : (p : PlanData) → Checked p → none_refuses (checks_of p) ≡ true
unfolding checks_of none_refuses
checks-pass p c = rw (c.three, c.four, c.five, c.six)

-- ---- two by two
module _ (p : PlanData) where
  abbrev pub early : List Test
  early = check 3 (check3 p) ∷ check 4 (check4 p) ∷ []

  abbrev pub late : List Test
  late = check 5 (check5 p) ∷ check 6 (check6 p) ∷ []

  pub fails-early : (m : ℕ) → m ≡ first_refusal early → (m ≡ 0 → ⊥) → m ≡ first_refusal (checks_of p)
  unfolding checks_of
  fails-early m e z = refusal-early m early late e z

  pub passes-early : (m : ℕ) → m ≡ first_refusal early → m ≡ 0 → (check3 p ≡ true) × (check4 p ≡ true)
  passes-early m e z = two-pass 3 4 (check3 p) (check4 p) refl (sym e ∙ z)

  pub fails-late : (m : ℕ) → check3 p ≡ true → check4 p ≡ true → m ≡ first_refusal late → m ≡ first_refusal (checks_of p)
  unfolding checks_of
  fails-late m a b e = refusal-late m early late (two_none 3 4 (check3 p) (check4 p) a b) e

-- ---- the checks of any plan's data are those of its graph
abbrev pub graph : PlanData → PlanData
graph p = graph_of p.sizes p.vias p.uppers p.lowers

module _ (p : PlanData) where
  pub same-3 : check3 p ≡ check3 (graph p)
  unfolding check3 segments_of level_of
  same-3 = refl

  pub same-4 : check4 p ≡ check4 (graph p)
  unfolding check4 segments_of
  same-4 = refl

  pub same-5 : check5 p ≡ check5 (graph p)
  unfolding check5 segments_of is_through
  same-5 = refl

  same-inner : (ss : List Segment) → inner_in p ss ≡ inner_in (graph p) ss
  unfolding inner_in
  same-inner [] = refl
  same-inner (s ∷ ss) = rw (same-inner ss)

  pub same-6 : check6 p ≡ check6 (graph p)
  unfolding check6 inner_segments segments_of crosses level_of
  same-6 = ap (λ (inner : List Segment). not (any (λ s. any (crosses p s) inner) inner)) (same-inner (segments_of p))

  pub same-checks : checks_of p ≡ checks_of (graph p)
  unfolding checks_of
  same-checks = rw (same-3, same-4, same-5, same-6)

  pub same-walk : (l : ℕ) → walk p l ≡ walk (graph p) l
  unfolding walk inner_below inner_segments segments_of level_of
  same-walk l = ap (λ (inner : List Segment). walk_from 0 0 (chosen (λ s. eqb (level_of p s.upper) l) inner)) (same-inner (segments_of p))
