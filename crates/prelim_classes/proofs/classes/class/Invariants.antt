-- By `Levelling`, what is left of the levels gives the same at every turn.
use Rattle.prelim_classes.proofs.ClassLaws.{Levelling}
use Rattle.prelim_classes.proofs.classes.class.Given as goal

abbrev pub invariant-loop-l : goal.invariant-loop-l
invariant-loop-l l = Levelling l.next l.top l.sizes l.order l.l l.from l.classes l.initial.classes
