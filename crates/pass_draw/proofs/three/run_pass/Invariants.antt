-- What the call of `pass` works on: the tables as they are lent, and the state.
use Rattle.pass_visits.specs.inner.Passing.{pass_work}
use Rattle.pass_draw.proofs.three.run_pass.Given as goal

abbrev pub ghost-pass : goal.ghost-pass
ghost-pass a = pass_work a.first.now a.ends.now a.sums.now a.at.now a.apart.now a.marks.now
