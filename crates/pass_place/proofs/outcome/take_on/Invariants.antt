use Rattle.std.proofs.Common.{◌≡◌, ◌-◌}
use Rattle.plan.specs.Plan.{numbers}
use Rattle.passes.specs.State.{take_on}
use Rattle.pass_place.proofs.outcome.take_on.Given as goal

abbrev pub invariant-loop-v : goal.invariant-loop-v
invariant-loop-v l = take_on l.at (numbers l.v (l.high - l.v)) l.apart ≡ take_on l.at (numbers l.low (l.high - l.low)) l.fn.apart
