-- By `Classing`, what is left of the level gives the same at every turn.
use Rattle.std.proofs.Common.{◌-◌, take, drop}
use Rattle.prelim_classes.proofs.ClassLaws.{Classing}
use Rattle.prelim_classes.proofs.classes.class_level.Given as goal

abbrev pub invariant-loop-v : goal.invariant-loop-v
invariant-loop-v l = Classing l.next l.top (take (l.to - l.from) (drop l.from l.order)) l.v-index l.current l.classes l.l l.initial.classes
