use Rattle.std.proofs.Common.{◌≡◌, ◌+◌, ◌-◌, length, drop}
use Rattle.plan.specs.Plan.{numbers}
use Rattle.passes.specs.State.{put}
use Rattle.pass_place.proofs.outcome.put_back.Given as goal

abbrev pub invariant-loop-i : goal.invariant-loop-i
invariant-loop-i l = put (numbers (l.from + l.i) (length l.placed - l.i)) (drop l.i l.placed) l.at ≡ put (numbers l.from (length l.placed)) l.placed l.fn.at
