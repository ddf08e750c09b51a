use Rattle.plan_untangle.proofs.Levels.{Rearranging}
use Rattle.plan_untangle.proofs.order.share_levels.Given as goal

abbrev pub invariant-loop-l : goal.invariant-loop-l
invariant-loop-l l = Rearranging l.sizes l.turn l.upper l.fn.order l.fn.places l.fn.codes l.order l.places l.codes l.first l.l
