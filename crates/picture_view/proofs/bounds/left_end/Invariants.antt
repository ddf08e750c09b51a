use Rattle.std.proofs.Common.{◌≡◌, ◌-◌, length, map}
use Rattle.plan.specs.Plan.{numbers}
use Rattle.picture_view.specs.Measure.{least_of, left_edge, leftmost}
use Rattle.picture_view.proofs.bounds.left_end.Given as goal

-- the least so far and the edges that are left make the least of all
abbrev pub invariant-loop-v : goal.invariant-loop-v
invariant-loop-v l = least_of l.least (map (left_edge l.halves l.finals) (numbers l.v (length l.finals - l.v))) ≡ leftmost l.halves l.finals
