use Rattle.plan_renumber.specs.inner.Own.{Marked}
use Rattle.plan_renumber.proofs.remembered.mark.Given as goal

abbrev pub invariant-loop-i : goal.invariant-loop-i
invariant-loop-i l = Marked l.level l.numbers l.seen l.i
