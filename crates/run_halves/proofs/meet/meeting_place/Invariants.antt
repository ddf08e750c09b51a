use Rattle.run_columns.specs.inner.Offsets.{less_near}
use Rattle.run_columns.specs.inner.Sums.{ratings_between}
use Rattle.run_halves.proofs.Bisect.{Searching}
use Rattle.run_halves.proofs.meet.meeting_place.Given as goal

abbrev pub invariant-loop-w : goal.invariant-loop-w
invariant-loop-w l = Searching l.k l.n l.z l.counts (less_near l.offsets l.counts l.near) (ratings_between l.sums) l.lo l.w

abbrev pub decreases-loop-w : goal.decreases-loop-w
decreases-loop-w l = l.w
