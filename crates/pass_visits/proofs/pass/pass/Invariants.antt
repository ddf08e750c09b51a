-- `pass_visits::pass::pass`: at every turn the levels before it are visited, and the last of them stands from `low` up to `high`.
use Rattle.pass_tables.specs.inner.Moments.{Leaves}
use Rattle.pass_visits.specs.inner.Passing.{pass_work, PassNext}
use Rattle.pass_visits.proofs.PassLaws.{Turned}
use Rattle.pass_visits.proofs.pass.pass.Given as goal

-- what the visits of a level work on
abbrev pub ghost-enter_level : goal.ghost-enter_level
ghost-enter_level g a = pass_work g.k.first g.k.ends g.k.sums a.at.now a.apart.now a.marks.now

abbrev pub invariant-loop-k : goal.invariant-loop-k
invariant-loop-k g l = Leaves (PassNext l.q l.starts l.vias g.k) (Turned l.q l.k l.low l.high l.at l.apart l.marks)
