use Rattle.std.proofs.Common.{arith}
use Rattle.ints.proofs.Lists.{sum-on, sum-end}
use Rattle.place_run.proofs.refusal.neighbours_in_all.Goals as goal

pub returns-then-total-count : goal.returns-then-total-count
returns-then-total-count c = omega (arith, c.loop-count.invariant.rest, sum-on c.args.counts.now c.loop-count.count-index c.loop-count-test.true)

pub loop-count-preserved : goal.loop-count-preserved
loop-count-preserved c = let l = c.loop-count in record {
  few = omega (arith, l.invariant.few, c.if-total-count.false);
  rest = omega (arith, l.invariant.rest, sum-on c.args.counts.now l.count-index c.loop-count-test.true);
}

pub returns : goal.returns
returns c = let l = c.loop-count in omega (arith, l.invariant.few, l.invariant.rest, sum-end c.args.counts.now l.count-index c.loop-count-test.false)
