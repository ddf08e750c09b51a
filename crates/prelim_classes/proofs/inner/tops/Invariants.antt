-- Those before v are written.
use Rattle.prelim_classes.proofs.InnerLaws.{TopsTo}
use Rattle.prelim_classes.proofs.inner.tops.Given as goal

abbrev pub invariant-loop-v : goal.invariant-loop-v
invariant-loop-v l = TopsTo l.initial.top l.top l.v
