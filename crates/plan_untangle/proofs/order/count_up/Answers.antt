-- `plan_untangle::order::count_up` meets its contract: the first i numbers are written.
use native.Mathlib.Omega.{arith}
use Rattle.plan_untangle.proofs.Tables.{counted-all}
use Rattle.plan_untangle.proofs.order.count_up.Goals as goal

pub returns : goal.returns
returns c = counted-all c.args.out.now c.loop-i.out c.loop-i.i c.loop-i.invariant (omega (arith, c.loop-i.invariant.long, c.loop-i-test.false))
