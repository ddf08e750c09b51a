-- Two lists at the front of a buffer, one right after the other. Assumes nothing.
use mathlib.Core.Path.{◌≡◌, ◌∙◌, ap}
use mathlib.Core.List.{List, ◌++◌, append_assoc}
use Prim.Native.Nat.{ℕ, ◌+◌, ◌-◌, ◌≤◌}
use native.Mathlib.Omega.{arith}
use borrow.Rule.Slice.PartMut.{put_mid}
use lib.ListN.{length, take, drop, length-append, length-drop}
use lib.Seq.{take_at, drop_at, drop-drop, length-take-le}
use lib.IntN.{ℤ}
use Rattle.ints.specs.Lists.{over}
use Rattle.plan.specs.Plan.{PlanData}
use Rattle.passes.specs.Drawing.{drawing_of}
use Rattle.text_marks.specs.Positions.{both_of}

-- v numbers at the front, and as many right after them
two-fronts : (xs ys o : List ℤ) (v : ℕ) → length xs ≡ v → length ys ≡ v → put_mid v (v + v - v) (xs ++ drop v o) ys ≡ over (xs ++ ys) o
two-fronts xs ys o v e f =
    let n : v + v - v ≡ v = omega arith in
    let l : length (xs ++ ys) ≡ v + v = omega (arith, length-append xs ys) in
    rw (n, take_at xs (drop v o) v e, drop_at xs (drop v o) v e, drop-drop v v o, l, append_assoc xs ys (drop (v + v) o))

-- what lies there before is as long
pub second-long : (xs o : List ℤ) (v : ℕ) → length xs ≡ v → v + v ≤ length o → length (take (v + v - v) (drop v (xs ++ drop v o))) ≡ v
second-long xs o v e h =
    let n : v + v - v ≡ v = omega arith in
    rw (n, drop_at xs (drop v o) v e) (length-take-le v (drop v o) (omega (arith, length-drop v o)))

-- a plan's positions, the final ones copied
pub two-written : (xs ys zs o : List ℤ) (v : ℕ) (p : PlanData) → length xs ≡ v → length ys ≡ v → zs ≡ ys → xs ≡ (drawing_of p).preliminary → ys ≡ (drawing_of p).final
    → put_mid v (v + v - v) (xs ++ drop v o) zs ≡ over (both_of p) o
two-written xs ys zs o v p e f z a b =
    two-fronts xs zs o v e (ap length z ∙ f) ∙ ap (λ (l : List ℤ). over l o) (ap (λ (l : List ℤ). l ++ zs) a ∙ ap (λ (l : List ℤ). (drawing_of p).preliminary ++ l) (z ∙ b))
