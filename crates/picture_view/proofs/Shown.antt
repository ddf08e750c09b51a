-- Every mark of a drawing lies inside the picture's view, a box with its whole rectangle; and boxes of two levels never touch. Assumes nothing.
use mathlib.Core.Path.{◌≡◌}
use mathlib.Core.Bool.{Bool, true, false, cond}
use mathlib.Core.List.{List}
use Prim.Native.Nat.{ℕ, ◌+◌, ◌-◌, ◌*◌, ◌≤◌, ◌<◌}
use native.Mathlib.Nat.{mul-le-mul}
use native.Mathlib.Omega.{arith}
use borrow.Author.Tests.{lt-ltb, le-ltb}
use lib.ListN.{length}
use lib.IntN.{ℤ, pos, ◌+ℤ◌, ◌-ℤ◌, ◌*ℤ◌}
use Rattle.ints.specs.Ints.{P, N, ◌⊑◌}
use Rattle.ints.proofs.Laws.{sum, dif, cases}
use Rattle.plan.specs.Plan.{PlanData, vertex_count, is_via, half_width, level_of, height_of}
use Rattle.plan.specs.Acceptable.{acceptable}
use Rattle.plan.proofs.Sound.{sound}
use Rattle.plan.proofs.LevelLaws.{level-low, level-high}
use Rattle.passes.specs.State.{position_of}
use Rattle.marks.specs.Marks.{box, bend, line, depth_of, upper_end, lower_end, whole_mark_of, mark_count}
use Rattle.picture_numbers.proofs.Times.{times-P, times-N}
use Rattle.picture_view.specs.Measure.{measure, leftmost, rightmost}
use Rattle.picture_view.specs.View.{view_left, view_top, view_width}
use Rattle.picture_view.specs.Inside.{left_end, width, top_end, height, Inside, AllInside, Shows}
use Rattle.picture_view.proofs.MeasureLaws.{leftmost-each, rightmost-each}

-- ---- a point between the ends, as far from them as the margin is wide
module _ (p : PlanData) (xs : List ℤ) where
  abbrev lo : ℤ
  lo = leftmost p.halves xs

  abbrev hi : ℤ
  hi = rightmost p.halves xs

  abbrev u : ℕ
  u = measure p

  left_in : (X : ℤ) → 500 * P lo + N X ≤ P X + 500 * N lo + 500 * u → left_end p xs ⊑ X
  left_in X h = let s = view_left lo u in omega (arith, times-P s, times-N s, dif lo (pos u))

  right_in : (X : ℤ) → P X + 500 * N hi ≤ 500 * P hi + N X + 500 * u → X ⊑ (left_end p xs +ℤ width p xs)
  right_in X h =
      let s = view_left lo u in
      let w = view_width lo hi u in
      omega (arith, times-P s, times-N s, dif lo (pos u), times-P w, times-N w, dif hi lo, sum (hi -ℤ lo) (pos (2 * u)), sum (left_end p xs) (width p xs))

  top_in : (Y : ℤ) → N Y ≤ P Y + 500 * u → top_end p ⊑ Y
  top_in Y h = let s = view_top u in omega (arith, times-P s, times-N s, dif (pos 0) (pos u))

  bottom-in : (Y : ℤ) → P Y ≤ N Y + 1000 * height_of p p.levels + 500 * u → Y ⊑ (top_end p +ℤ height p)
  bottom-in Y h = let s = view_top u in omega (arith, times-P s, times-N s, dif (pos 0) (pos u), sum (top_end p) (height p))

  module _ (ok : acceptable p ≡ true) (e : length xs ≡ vertex_count p) where
    -- a vertex stands no lower than the lowest level
    high : (v : ℕ) → v < vertex_count p → depth_of p v ≤ height_of p p.levels
    unfolding height_of level_of
    high v h =
        let l = (sound p ok).limits in
        mul-le-mul (le_refl p.spacing) (omega (arith, level-high p.sizes v (omega (arith, l.sizes_sum)), l.sizes_long))
      where
        le_refl : (n : ℕ) → n ≤ n
        le_refl n = omega arith

    -- the rectangle of half-width a and half-height b around vertex v
    around : (v a b : ℕ) → v < vertex_count p → a ≤ 1000 * half_width p v + 500 * u → b ≤ 500 * u
        → AllInside p xs (pos 500 *ℤ position_of xs v) (pos (1000 * depth_of p v)) a b
    around v a b h wide tall =
        let x = position_of xs v in
        let X = pos 500 *ℤ x in
        let Y = pos (1000 * depth_of p v) in
        let w = 2 * half_width p v in
        let l = leftmost-each p.halves xs v (omega arith) in
        let r = rightmost-each p.halves xs v (omega arith) in
        let low = high v h in
        record {
          upper = record {
            from_left = left_in (X -ℤ pos a) (omega (arith, times-P x, times-N x, dif X (pos a), dif x (pos w)));
            to_right = right_in (X -ℤ pos a) (omega (arith, times-P x, times-N x, dif X (pos a), sum x (pos w)));
            from_top = top_in (Y -ℤ pos b) (omega (arith, dif Y (pos b)));
            to_bottom = bottom-in (Y -ℤ pos b) (omega (arith, dif Y (pos b)));
          };
          lower = record {
            from_left = left_in (X +ℤ pos a) (omega (arith, times-P x, times-N x, sum X (pos a), dif x (pos w)));
            to_right = right_in (X +ℤ pos a) (omega (arith, times-P x, times-N x, sum X (pos a), sum x (pos w)));
            from_top = top_in (Y +ℤ pos b) (omega (arith, sum Y (pos b)));
            to_bottom = bottom-in (Y +ℤ pos b) (omega (arith, sum Y (pos b)));
          };
        }

    -- where vertex v stands
    point : (v : ℕ) → v < vertex_count p → Inside p xs (pos 500 *ℤ position_of xs v) (pos (1000 * depth_of p v))
    point v h =
        let x = position_of xs v in
        let w = 2 * half_width p v in
        let l = leftmost-each p.halves xs v (omega arith) in
        let r = rightmost-each p.halves xs v (omega arith) in
        record {
          from_left = left_in (pos 500 *ℤ x) (omega (arith, times-P x, times-N x, dif x (pos w)));
          to_right = right_in (pos 500 *ℤ x) (omega (arith, times-P x, times-N x, sum x (pos w)));
          from_top = top_in (pos (1000 * depth_of p v)) (omega arith);
          to_bottom = bottom-in (pos (1000 * depth_of p v)) (omega (arith, high v h));
        }

    -- ---- every mark
    vertex : (v : ℕ) (via : Bool) → v < vertex_count p → Shows p xs (cond via (bend (position_of xs v) (depth_of p v)) (box (position_of xs v) (depth_of p v) (half_width p v)))
    vertex v true h = around v (35 * u) (35 * u) h (omega arith) (omega arith)
    vertex v false h = around v (1000 * half_width p v) (200 * u) h (omega arith) (omega arith)

    segment : (k : ℕ) → k < length p.uppers
        → Shows p xs (line (position_of xs (upper_end p k)) (depth_of p (upper_end p k)) (position_of xs (lower_end p k)) (depth_of p (lower_end p k)))
    segment k h =
        let S = sound p ok in
        (point (upper_end p k) (S.ends.upper k h), point (lower_end p k) (S.ends.lower k (omega (arith, S.limits.ends_long))))

    pub view-contains : (n : ℕ) → n < mark_count p → Shows p xs (whole_mark_of p xs n)
    unfolding whole_mark_of
    view-contains n h =
        cases (vertex_count p) n
        (λ m. rw (le-ltb n (vertex_count p) m) (segment (n - vertex_count p) (omega arith)))
        (λ m. rw (lt-ltb n (vertex_count p) m) (vertex n (is_via p n) m))

-- ---- boxes of two levels: the lower edge of the one above, and the upper edge of the one below
pub boxes-apart : (p : PlanData) (v w : ℕ) → 1 ≤ p.spacing → level_of p v < level_of p w
    → 1000 * depth_of p v + 200 * measure p + 200 * measure p < 1000 * depth_of p w
unfolding measure height_of level_of
boxes-apart p v w s h =
    let l = level-low p.sizes v in
    let step : p.spacing * (level_of p v - 1 + 1) ≤ p.spacing * (level_of p w - 1) = mul-le-mul (le_refl p.spacing) (omega arith) in
    omega (arith, mul-add-one p.spacing (level_of p v - 1))
  where
    le_refl : (n : ℕ) → n ≤ n
    le_refl n = omega arith

    mul-add-one : (a b : ℕ) → a * (b + 1) ≡ a * b + a
    mul-add-one a b = omega arith
