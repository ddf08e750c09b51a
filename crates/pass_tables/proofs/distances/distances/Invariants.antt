-- the levels written and those still to come make the same list at every turn
use Rattle.std.proofs.Common.{◌≡◌, ◌++◌, ◌+◌, take, drop}
use Rattle.ints.specs.Lists.{sum}
use Rattle.plan.specs.Plan.{PlanData, levels_from}
use Rattle.passes.specs.State.{doubled_in}
use Rattle.pass_tables.proofs.distances.distances.Given as goal

abbrev pub invariant-loop-size : goal.invariant-loop-size
invariant-loop-size l = record {
  rest : l.from + sum (drop l.size-index l.sizes) ≡ sum l.sizes;
  written : (p : PlanData) → p.gap ≡ l.gap → p.halves ≡ l.halves
      → take l.from l.apart ++ doubled_in p (levels_from l.from (drop l.size-index l.sizes)) ≡ doubled_in p (levels_from 0 l.sizes);
}
