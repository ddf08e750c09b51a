-- Whether a run is due, by what the program has: where the run and its level begin and end, the marks, and readiness. Assumes nothing.
use Prim.Native.Nat.{ℕ, ◌-◌, ◌<◌, ◌≤◌}
use mathlib.Core.Path.{◌≡◌, refl, sym, ◌∙◌, ap}
use mathlib.Core.Bool.{Bool, true, false, cond, not, ◌&&◌, ◌||◌}
use mathlib.Core.List.{List}
use mathlib.Core.Option.{Option, none, some}
use native.Mathlib.Omega.{arith}
use borrow.Author.Tests.{eq-eqb, ne_eqb}
use lib.Dec.{eqb}
use lib.ListN.{get_or}
use Rattle.plan.specs.Plan.{PlanData, vertex_count}
use Rattle.passes.specs.Runs.{Run, both_vias, is_bounded}
use Rattle.passes.specs.State.{State}
use Rattle.passes.specs.Ready.{is_settled, is_ready}
use Rattle.passes.specs.Passes.{is_due}
use Rattle.plan.proofs.Levels.{level-within}
use Rattle.passes.proofs.Sound.{Sound}
use Rattle.passes.specs.inner.Runs.{LeftEnd, no-left, via-left, RightEnd, no-right, via-right, IsRun}
use Rattle.passes.proofs.RunsOn.{bounds}
use Rattle.passes.proofs.Counts.{due-open}
use Rattle.pass_tables.specs.inner.Moments.{RunIs, Unsettled}

pub and_no : (t : Bool) → t && false ≡ false
and_no true = refl
and_no false = refl

-- ---- where a run stands, and what is beside it
left-none' : {p : PlanData} {b : ℕ} {o : Option ℕ} {low first : ℕ} → LeftEnd p b o low first → first ≡ b → o ≡ none
left-none' (no-left e f) h = refl
left-none' (via-left e f g t) h = absurd (omega arith)

left-some' : {p : PlanData} {b : ℕ} {o : Option ℕ} {low first : ℕ} → LeftEnd p b o low first → b < first → o ≡ some (first - 1)
left-some' (no-left e f) h = absurd (omega arith)
left-some' (via-left e f g t) h = ap some (omega arith)

right-none' : {p : PlanData} {b : ℕ} {o : Option ℕ} {past high : ℕ} → RightEnd p b o past high → past ≡ b → o ≡ none
right-none' (no-right e f) h = refl
right-none' (via-right e f g t) h = absurd (omega arith)

right-some' : {p : PlanData} {b : ℕ} {o : Option ℕ} {past high : ℕ} → RightEnd p b o past high → past < b → o ≡ some past
right-some' (no-right e f) h = absurd (omega arith)
right-some' (via-right e f g t) h = ap some e

pub record InOrder (p : PlanData) (start from end to : ℕ) : Type 0 where
  pub low : start ≤ from
  pub boxes : from ≤ end
  pub high : end ≤ to
  pub vertices : to ≤ vertex_count p

module _ {p : PlanData} {r : Run} {start from end to : ℕ} (i : RunIs p r start from end to) where
  pub left-none : from ≡ start → r.left ≡ none
  left-none h = left-none' i.is.begins (omega (arith, i.first, i.starts))

  pub left-some : start < from → r.left ≡ some (from - 1)
  left-some h = left-some' i.is.begins (omega (arith, i.first, i.starts)) ∙ ap some (omega (arith, i.first))

  pub right-none : end ≡ to → r.right ≡ none
  right-none h = right-none' i.is.ends (omega (arith, i.past, i.ends))

  pub right-some : end < to → r.right ≡ some end
  right-some h = right-some' i.is.ends (omega (arith, i.past, i.ends)) ∙ ap some (sym i.past)

  pub in_order : Sound p → InOrder p start from end to
  in_order so = let b = bounds i.is in record {
    low = omega (arith, i.starts, i.first, b.from, b.left);
    boxes = omega (arith, i.first, i.past);
    high = omega (arith, i.past, i.ends, b.right, b.to);
    vertices = omega (arith, i.ends, level-within p r.level, so.total);
  }

-- ---- an open run
pub open-left : (r : Run) → r.left ≡ none → is_bounded r ≡ false
open-left r e = ap (λ (o : Option ℕ). both_vias o r.right) e

pub open-right : (r : Run) → r.right ≡ none → is_bounded r ≡ false
open-right r e = ap (both_vias r.left) e ∙ go r.left
  where
    go : (o : Option ℕ) → both_vias o none ≡ false
    go none = refl
    go (some v) = refl

module _ (p : PlanData) (q : ℕ) (s : State) (r : Run) where
  pub due-left : r.left ≡ none → is_due p q s r ≡ not (eqb q 3)
  due-left e = due-open p q s r (open-left r e)

  pub due-right : r.right ≡ none → is_due p q s r ≡ not (eqb q 3)
  due-right e = due-open p q s r (open-right r e)

-- ---- a bounded run
and-true : (b : Bool) → b && true ≡ b
and-true true = refl
and-true false = refl

module _ {p : PlanData} {s : State} {marks : List Bool} (m : Unsettled p s marks) {r : Run} (i : IsRun p r) (a b : ℕ) (e : r.left ≡ some a) (f : r.right ≡ some b) (q : ℕ) where
  due-bounded : is_due p q s r ≡ get_or marks a false && (eqb q 3 || is_ready p q s r)
  unfolding is_due
  due-bounded = let bounded : is_bounded r ≡ true = rw (e, f) in
      ap (λ (t : Bool). cond t (not (is_settled p s r) && (eqb q 3 || is_ready p q s r)) (not (eqb q 3))) bounded
      ∙ ap (λ (t : Bool). t && (eqb q 3 || is_ready p q s r)) (sym (m.each r i a b e f))

  pub due-third : q ≡ 3 → is_due p q s r ≡ get_or marks a false
  due-third z = due-bounded ∙ ap (λ (t : Bool). get_or marks a false && (t || is_ready p q s r)) (eq-eqb q 3 z) ∙ and-true (get_or marks a false)

  pub due-ready : (q ≡ 3 → ⊥) → is_due p q s r ≡ get_or marks a false && is_ready p q s r
  due-ready n = due-bounded ∙ ap (λ (t : Bool). get_or marks a false && (t || is_ready p q s r)) (ne_eqb q 3 n)
