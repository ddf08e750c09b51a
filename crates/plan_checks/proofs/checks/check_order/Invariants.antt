use Rattle.std.proofs.Common.{◌≡◌, ◌-◌}
use Rattle.plan.specs.Checks.{rising}
use Rattle.plan_walks.specs.inner.Walks.{after}
use Rattle.plan_checks.proofs.checks.check_order.Given as goal

abbrev pub invariant-loop-i : goal.invariant-loop-i
invariant-loop-i l = rising (after l.uppers l.lowers (l.i - 1)) ≡ rising (after l.uppers l.lowers 0)
