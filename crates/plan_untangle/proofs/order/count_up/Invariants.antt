use Rattle.plan_untangle.proofs.Tables.{Counted}
use Rattle.plan_untangle.proofs.order.count_up.Given as goal

abbrev pub invariant-loop-i : goal.invariant-loop-i
invariant-loop-i l = Counted l.fn.out l.out l.i
