-- `plan_untangle::order::upper_ends` meets its contract: the upper ends of the segments from i on are written.
use Prim.Native.Nat.{◌-◌, ◌+◌, ◌<◌}
use mathlib.Core.Path.{◌≡◌, sym}
use native.Mathlib.Omega.{arith}
use lib.ListN.{length}
use Rattle.plan.proofs.SegmentLaws.{segments-count}
use Rattle.plan_untangle.proofs.Tables.{ending-start, ending-on}
use Rattle.plan_untangle.proofs.order.upper_ends.Goals as goal

pub loop-i-init : goal.loop-i-init
loop-i-init c = ending-start c.args.uppers.now c.args.lowers.now c.args.upper.now c.requires

pub loop-i-preserved : goal.loop-i-preserved
loop-i-preserved c =
    let pre = c.requires in
    let loop = c.loop-i in
    let loop-test = c.loop-i-test in
    let a = c.args in
    let g = pre in
    let i = loop.i - 1 in
    let e : loop.i ≡ i + 1 = omega (arith, loop-test.true) in
    let h : i < length a.uppers.now = omega (arith, loop.invariant.within, segments-count a.uppers.now a.lowers.now (sym g.ends), loop-test.true) in
    ending-on a.uppers.now a.lowers.now a.upper.now loop.upper i g.ends (rw e at loop.invariant) h (g.lower_ends i (omega (arith, g.ends)))
