use Rattle.std.proofs.Common.{◌≡◌, ◌+◌, drop}
use Rattle.ints.specs.Lists.{sum}
use Rattle.plan.specs.Plan.{PlanData}
use Rattle.report_validity.specs.inner.Stored.{OfPlan}
use Rattle.report_validity.specs.inner.Tests.{are_placings}
use Rattle.report_validity.proofs.placings.are_placings.Given as goal

-- whether all placings hold is whether those from the i-th on do, whose boxes are listed from `at` on
abbrev pub invariant-loop-i : goal.invariant-loop-i
invariant-loop-i l =
    (l.at + sum (drop l.i l.counts) ≡ sum l.counts)
    × ((p : PlanData) → OfPlan p l.sizes l.vias → are_placings p (drop l.i l.passes) (drop l.i l.levels) (drop l.i l.counts) (drop l.at l.vertices) ≡ are_placings p l.passes l.levels l.counts l.vertices)
