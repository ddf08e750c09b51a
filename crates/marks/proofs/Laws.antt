-- Bounds that the marks' numbers need, of a height and a position; and a plan's marks by its lists. Assumes nothing.
use mathlib.Core.Path.{◌≡◌, refl, sym, ◌∙◌, ap}
use mathlib.Core.Bool.{Bool, true, false, cond}
use mathlib.Core.List.{List}
use Prim.Native.Nat.{ℕ, ◌+◌, ◌*◌, ◌-◌, ◌≤◌, ◌<◌}
use native.Mathlib.Nat.{mul-le-mul}
use native.Mathlib.Omega.{arith}
use borrow.Author.Tests.{lt-ltb, le-ltb}
use lib.ListN.{length, get_or}
use lib.IntN.{ℤ, nat_abs}
use Rattle.ints.proofs.Laws.{abs}
use Rattle.ints.proofs.Reach.{within-at as size-at}
use Rattle.plan.specs.Plan.{PlanData, level_in, level_of, height_of}
use Rattle.plan.proofs.LevelLaws.{level-most}
use Rattle.plan_checks.specs.inner.Heights.{height_at, HeightsOf}
use Rattle.passes.specs.State.{position_of}
use Rattle.ints.specs.Reach.{reach, all_within}
use Rattle.marks.specs.declared.types.Mark.TheVariants.{Box, Bend}
use Rattle.marks.specs.Half.{half_of, whole_of, max_whole}
use Rattle.marks.specs.Marks.{box, bend, point_of, whole_mark_of, in_f64, mark_of, mark_count}
use Rattle.marks.specs.inner.Asked.{point_in, line_in, DataOf, DataAt, AskedEach, InReach, AskedAll}

pub height-low : {spacing : ℕ} {sizes : List ℕ} {xs : List ℤ} → InReach spacing sizes xs → (v : ℕ) → height_at spacing sizes v < max_whole
unfolding height_of level_of
height-low {spacing} {sizes} h v =
    let few : level_in sizes v - 1 ≤ 64 = omega (arith, level-most sizes v, h.levels) in
    let low : spacing * (level_in sizes v - 1) ≤ 10000 * 64 = mul-le-mul h.spaced few in
    omega arith

pub within-at : (xs : List ℤ) (v : ℕ) → all_within xs ≡ true → nat_abs (position_of xs v) ≤ reach
within-at xs v e = omega (arith, abs (position_of xs v), size-at xs v e)

-- ---- a plan with these data
module _ {p : PlanData} {spacing : ℕ} {sizes : List ℕ} {vias : List Bool} {halves uppers lowers : List ℕ} (d : DataOf p spacing sizes vias halves uppers lowers) where
  -- how many marks it has
  pub count-is : mark_count p ≡ length vias + length uppers
  count-is = rw (ap (λ (q : PlanData). q.vias) d, ap (λ (q : PlanData). q.uppers) d)

  pub data-at : {heights : List ℕ} → HeightsOf spacing sizes heights → DataAt p heights vias halves uppers lowers
  data-at r =
      let e : p.spacing ≡ spacing = ap (λ (q : PlanData). q.spacing) d in
      let f : p.sizes ≡ sizes = ap (λ (q : PlanData). q.sizes) d in
      record { raised = rw (e, f) r; lists = d ∙ rw (e, f) }

pub asked-each : {spacing : ℕ} {sizes : List ℕ} {vias : List Bool} {halves uppers lowers : List ℕ} {xs : List ℤ} (heights : List ℕ) → AskedAll spacing sizes vias halves uppers lowers xs
    → length heights ≡ length vias → HeightsOf spacing sizes heights → AskedEach heights vias halves uppers lowers xs
asked-each heights a e r = record {
  standing = record { long = omega (arith, a.agreeing.positions); low = λ v h. omega (arith, r.each v h, height-low a.near v); within = a.near.within };
  agreeing = a.agreeing;
}

-- the ends of the k-th segment
pub ends-stand : {heights : List ℕ} {vias : List Bool} {halves uppers lowers : List ℕ} {xs : List ℤ} → AskedEach heights vias halves uppers lowers xs
    → (k : ℕ) → k < length uppers → (get_or uppers k 0 < length xs) × (get_or lowers k 0 < length xs)
ends-stand h k l =
    let a = h.agreeing in
    (omega (arith, a.upper k l, a.positions), omega (arith, a.lower k (omega (arith, a.ends)), a.positions))

-- ---- the n-th mark, by the plan's lists
either-in-f64 : (via : Bool) (x : ℤ) (y w : ℕ) → in_f64 (cond via (bend x y) (box x y w)) ≡ cond via (Bend (point_of x y)) (Box (point_of x y) (whole_of w))
either-in-f64 true x y w = refl
either-in-f64 false x y w = refl

module _ (p : PlanData) (heights : List ℕ) (vias : List Bool) (halves uppers lowers : List ℕ) (xs : List ℤ) (n : ℕ)
    (d : DataAt p heights vias halves uppers lowers) where
  abbrev e-vias : p.vias ≡ vias
  e-vias = ap (λ (q : PlanData). q.vias) d.lists

  stands : (v : ℕ) → v < length heights → height_of p (level_of p v) ≡ get_or heights v 0
  unfolding height_of level_of
  stands v h = sym (d.raised.each v h)

  pub vertex-is : n < length vias → n < length heights
      → mark_of p xs n ≡ cond (get_or vias n false) (Bend (point_in heights xs n)) (Box (point_in heights xs n) (whole_of (get_or halves n 0)))
  unfolding mark_of whole_mark_of height_of level_of
  vertex-is h k =
      rw (e-vias, stands n k, ap (λ (q : PlanData). q.halves) d.lists, lt-ltb n (length vias) h)
      (either-in-f64 (get_or vias n false) (position_of xs n) (get_or heights n 0) (get_or halves n 0))

  pub segment-is : (k : ℕ) → k ≡ n - length vias → length vias ≤ n → get_or uppers k 0 < length heights → get_or lowers k 0 < length heights
      → mark_of p xs n ≡ line_in heights xs (get_or uppers k 0) (get_or lowers k 0)
  unfolding mark_of whole_mark_of height_of level_of half_of whole_of
  segment-is k e h a b =
      rw (
        e-vias,
        ap (λ (q : PlanData). q.uppers) d.lists,
        ap (λ (q : PlanData). q.lowers) d.lists,
        le-ltb n (length vias) h,
        ← e,
        stands (get_or uppers k 0) a,
        stands (get_or lowers k 0) b,
      )
