-- `pass_visits::level::visit_level`: at every turn the runs before `from` are visited and those from there on come next.
use Rattle.std.proofs.Common.{◌+◌, ◌-◌}
use Rattle.pass_tables.specs.inner.Moments.{Leaves}
use Rattle.pass_visits.specs.inner.Visits.{worked, Levelling}
use Rattle.pass_visits.proofs.Midway.{Midway}
use Rattle.pass_visits.proofs.level.visit_level.Given as goal

-- what a visit works on
abbrev pub ghost-visit : goal.ghost-visit
ghost-visit g a = worked g.k a.at.now a.apart.now a.marks.now

abbrev pub invariant-loop-from : goal.invariant-loop-from
invariant-loop-from g l = Leaves (Levelling l.q l.start l.to l.vias g.k) (Midway l.q l.from (worked g.k l.at l.apart l.marks))

abbrev pub decreases-loop-from : goal.decreases-loop-from
decreases-loop-from g l = l.to + 1 - l.from
