-- what is written and what is still to come make the same list at every turn
use Rattle.std.proofs.Common.{◌≡◌, ◌++◌, ◌-◌, take}
use Rattle.plan.specs.Plan.{PlanData, numbers}
use Rattle.passes.specs.State.{doubled_on}
use Rattle.pass_tables.proofs.distances.distances_on.Given as goal

abbrev pub invariant-loop-v : goal.invariant-loop-v
invariant-loop-v l = (p : PlanData) → p.gap ≡ l.gap → p.halves ≡ l.halves
    → take l.v l.apart ++ doubled_on p (numbers l.v (l.to - l.v)) ≡ take l.from l.initial.apart ++ doubled_on p (numbers l.from (l.to - l.from))
