-- What the visits of a level in `pass_visits::pass::enter_level` work on.
use Rattle.pass_visits.specs.inner.Visits.{work}
use Rattle.pass_visits.proofs.pass.enter_level.Given as goal

abbrev pub ghost-visit_level : goal.ghost-visit_level
ghost-visit_level g a = work a.first.now a.ends.now a.sums.now a.before.now a.after.now a.counts.now a.at.now a.apart.now a.marks.now
