use Rattle.std.proofs.Common.{arith, ◌+◌, ◌-◌, length, drop, get_or}
use Rattle.run_columns.specs.inner.Offsets.{offsets_from}
use Rattle.run_columns.proofs.Fill.{fill-next, fill_end}
use Rattle.run_columns.proofs.OffsetLaws.{sum_step, offsets-next, offsets-end}
use Rattle.run_columns.proofs.offsets.fill_offsets.Goals as goal

pub overflow_add-offset : goal.overflow_add-offset
overflow_add-offset c = omega (arith, c.distance_at-offset.ensures, c.loop-i.invariant.sums, sum_step c.args.steps.now c.loop-i.i, c.requires)

pub loop-i-preserved : goal.loop-i-preserved
loop-i-preserved c = let l = c.loop-i in let ds = c.args.steps.now in let r = length c.args.offsets.now in let d = c.distance_at-offset.ensures in record {
  sums = omega (arith, d, l.invariant.sums, sum_step ds l.i);
  filled = rw d (fill-next l.offsets l.i l.offset (offsets_from (l.offset + get_or ds l.i 0) (drop (l.i + 1) ds) (r - (l.i + 1))) (offsets_from 0 ds r)
      (omega (arith, c.loop-i-test.true, l.auto.offsets)) (rw (offsets-next l.offset ds l.i r (omega (arith, c.loop-i-test.true))) at l.invariant.filled));
}

pub returns : goal.returns
returns c = let l = c.loop-i in let ds = c.args.steps.now in let r = length c.args.offsets.now in
    fill_end l.offsets l.i (offsets_from 0 ds r) (omega (arith, c.loop-i-test.false, l.auto.offsets)) (rw (offsets-end l.offset (drop l.i ds) l.i r (omega (arith, c.loop-i-test.false))) at l.invariant.filled)
