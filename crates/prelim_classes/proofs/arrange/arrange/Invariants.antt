-- By `Arranging`, what is written and what is left make the whole at every turn.
use Rattle.prelim_classes.proofs.LevelLaws.{Arranging}
use Rattle.prelim_classes.proofs.arrange.arrange.Given as goal

abbrev pub invariant-loop-size : goal.invariant-loop-size
invariant-loop-size l = Arranging l.reversed l.sizes l.order l.right l.size-index l.from
