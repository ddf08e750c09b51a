use Rattle.std.proofs.Common.{◌≡◌, ◌-◌, length, map}
use Rattle.plan.specs.Plan.{numbers}
use Rattle.picture_view.specs.Measure.{most_of, right_edge, rightmost}
use Rattle.picture_view.proofs.bounds.right_end.Given as goal

-- the most so far and the edges that are left make the most of all
abbrev pub invariant-loop-v : goal.invariant-loop-v
invariant-loop-v l = most_of l.most (map (right_edge l.halves l.finals) (numbers l.v (length l.finals - l.v))) ≡ rightmost l.halves l.finals
