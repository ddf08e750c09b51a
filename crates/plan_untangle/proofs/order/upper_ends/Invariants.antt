use Rattle.plan.specs.Segments.{segments_from}
use Rattle.plan_untangle.proofs.Tables.{Ending}
use Rattle.plan_untangle.proofs.order.upper_ends.Given as goal

abbrev pub invariant-loop-i : goal.invariant-loop-i
invariant-loop-i l = Ending (segments_from l.uppers l.lowers) l.fn.upper l.upper l.i
