-- The list of placings never has more than 2,048 placings or boxes. Assumes nothing.
use Prim.Native.Nat.{◌≤◌}
use mathlib.Core.Path.{◌≡◌, ◌∙◌, ap}
use mathlib.Core.Bool.{true}
use mathlib.Core.List.{List, ◌++◌}
use native.Mathlib.Omega.{arith}
use lib.ListN.{length, length-append}
use Rattle.plan.specs.Plan.{PlanData}
use Rattle.plan.specs.Acceptable.{acceptable}
use Rattle.passes.specs.State.{State}
use Rattle.passes.specs.Drawing.{Placing, listed}
use Rattle.passes.specs.Words.{boxes_listed, max_listed}
use Rattle.passes.proofs.Sound.{sound}
use Rattle.passes.proofs.Kept.{kept}
use Rattle.passes.specs.inner.Schedule.{Visit, visit_all, schedule, start}
use Rattle.passes.proofs.Schedule.{visit-append}
use Rattle.passes.proofs.Moments.{grown-all, final}
use Rattle.passes.proofs.Listed.{final-load, listed-boxes, listed-count}
use Rattle.pass_tables.specs.inner.Moments.{state_after}
use Rattle.pass_list.proofs.Added.{boxes-append}
use Rattle.pass_list.proofs.Steps.{listed-append}

-- The visits so far list the front of the final list.
module _ (p : PlanData) (ok : acceptable p ≡ true) (past coming : List Visit) (whole : schedule p ≡ past ++ coming) where
  later : List Placing
  later = listed p (grown-all p coming (state_after p past)).more

  final-list : listed p (final p).trace ≡ listed p (state_after p past).trace ++ later
  unfolding later
  final-list = ap (λ (vs : List Visit). listed p (visit_all p vs (start p)).trace) whole ∙ ap (λ (s : State). listed p s.trace) (visit-append p past coming (start p))
      ∙ ap (listed p) (grown-all p coming (state_after p past)).is ∙ listed-append p (state_after p past).trace (grown-all p coming (state_after p past)).more

  pub few-boxes : length (boxes_listed (listed p (state_after p past).trace)) ≤ max_listed
  few-boxes = let list = listed p (state_after p past).trace in let ss = (final p).trace in
      omega (
        arith,
        listed-boxes p ss,
        final-load (sound p ok) (kept p ok),
        ap (λ (l : List Placing). length (boxes_listed l)) final-list,
        ap length (boxes-append list later),
        length-append (boxes_listed list) (boxes_listed later),
      )

  pub few-placings : length (listed p (state_after p past).trace) ≤ max_listed
  few-placings = omega (arith, listed-count p (state_after p past).trace, few-boxes)
