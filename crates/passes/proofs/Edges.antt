-- A bounded run's boxes stand between its vias. Assumes nothing.
use mathlib.Core.Path.{◌≡◌, refl, ◌∙◌, ap, subst}
use mathlib.Core.Bool.{true}
use mathlib.Core.List.{List}
use mathlib.Core.Option.{Option, none, some}
use Prim.Native.Nat.{ℕ, suc, ◌+◌, ◌-◌, ◌≤◌, ◌<◌}
use native.Mathlib.Omega.{arith}
use lib.IntN.{ℤ}
use Rattle.ints.specs.Ints.{◌⊑◌}
use Rattle.plan.specs.Plan.{PlanData}
use Rattle.passes.specs.Runs.{Run, both_vias, is_bounded}
use Rattle.passes.specs.State.{State, position_of, put}
use Rattle.plan.proofs.All.{no_true}
use Rattle.passes.specs.inner.Runs.{LeftEnd, no-left, via-left, RightEnd, no-right, via-right, IsRun}
use Rattle.passes.proofs.RunsOn.{bounds}
use Rattle.passes.proofs.Spaced.{climb, put-still, SpacedAt}

-- ---- its ends
pub left_at : {p : PlanData} {b : ℕ} {o : Option ℕ} {low first : ℕ} (a : ℕ) → LeftEnd p b o low first → o ≡ some a → (low ≡ a) × (suc a ≡ first)
left_at a (no-left e f) z = let y : ◌≡◌ {A = ℕ} 0 1 = cc in absurd (omega arith)
left_at a (via-left {v = v} e f g t) z = let y : v ≡ a = cc in (omega arith, omega arith)

pub right-at : {p : PlanData} {b : ℕ} {o : Option ℕ} {past high : ℕ} (a : ℕ) → RightEnd p b o past high → o ≡ some a → (suc a ≡ high) × (a ≡ past)
right-at a (no-right e f) z = let y : ◌≡◌ {A = ℕ} 0 1 = cc in absurd (omega arith)
right-at a (via-right {v = v} e f g t) z = let y : v ≡ a = cc in (omega arith, omega arith)

pub record Ends (a b : Option ℕ) : Type 0 where
  pub left : ℕ
  pub right : ℕ
  pub left_is : a ≡ some left
  pub right_is : b ≡ some right

both_ends : (a b : Option ℕ) → both_vias a b ≡ true → Ends a b
both_ends none b e = no_true e
both_ends (some v) none e = no_true e
both_ends (some v) (some w) e = record { left = v; right = w; left_is = refl; right_is = refl }

pub bounded-ends : (r : Run) → is_bounded r ≡ true → Ends r.left r.right
bounded-ends r e = both_ends r.left r.right e

-- ---- where a box may stand
module _ {p : PlanData} {r : Run} (i : IsRun p r) (s : State) (ys : List ℤ) (far : SpacedAt i s ys) where
  pub right-of-left : (a : ℕ) → r.left ≡ some a → (b : ℕ) → i.first ≤ b → b < i.first + i.count → position_of s.at a ⊑ position_of (put r.boxes ys s.at) b
  right-of-left a e b h k = let l = left_at a i.begins e in let y : i.low + (b - i.low) ≡ b = omega arith in let g = bounds i in
      let q : position_of (put r.boxes ys s.at) i.low ⊑ position_of (put r.boxes ys s.at) b =
      subst (λ w. position_of (put r.boxes ys s.at) i.low ⊑ position_of (put r.boxes ys s.at) w) y
      (climb (position_of (put r.boxes ys s.at)) s.apart i.low i.high far i.low (b - i.low) (omega arith) (omega arith)) in
      let z : position_of (put r.boxes ys s.at) i.low ≡ position_of s.at a = put-still i ys s.at i.low (λ m n. absurd (omega arith)) ∙ ap (position_of s.at) l.0 in
      subst (λ w. w ⊑ position_of (put r.boxes ys s.at) b) z q

  pub left-of-right : (a : ℕ) → r.right ≡ some a → (b : ℕ) → i.first ≤ b → b < i.first + i.count → position_of (put r.boxes ys s.at) b ⊑ position_of s.at a
  left-of-right a e b h k = let l = right-at a i.ends e in let y : b + (a - b) ≡ a = omega arith in let g = bounds i in
      let q : position_of (put r.boxes ys s.at) b ⊑ position_of (put r.boxes ys s.at) a =
      subst (λ w. position_of (put r.boxes ys s.at) b ⊑ position_of (put r.boxes ys s.at) w) y
      (climb (position_of (put r.boxes ys s.at)) s.apart i.low i.high far b (a - b) (omega arith) (omega arith)) in
      subst (λ w. position_of (put r.boxes ys s.at) b ⊑ w) (put-still i ys s.at a (λ m n. absurd (omega arith))) q
