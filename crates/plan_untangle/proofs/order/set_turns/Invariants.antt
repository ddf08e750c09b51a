use Rattle.plan_untangle.proofs.Tables.{Turning}
use Rattle.plan_untangle.proofs.order.set_turns.Given as goal

abbrev pub invariant-loop-v : goal.invariant-loop-v
invariant-loop-v l = Turning l.vias l.upper l.fn.turn l.turn l.v
