-- The counts from one on take up the neighbours from there on, and whether all are taken is whether those are.
use Rattle.std.proofs.Common.{arith, ◌∙◌, sym}
use Rattle.ints.proofs.Lists.{sum-on, sum-end}
use Rattle.place_run.proofs.RefusalLaws.{parts-step, parts-end}
use Rattle.place_run.proofs.refusal.neighbours_are_taken.Goals as goal

pub overflow_add-to : goal.overflow_add-to
overflow_add-to c = omega (arith, c.loop-count.invariant.rest, sum-on c.args.counts.now c.loop-count.count-index c.loop-count-test.true)

pub slice_bounds-part_is_taken-end : goal.slice_bounds-part_is_taken-end
slice_bounds-part_is_taken-end c = omega (arith, c.loop-count.invariant.rest, sum-on c.args.counts.now c.loop-count.count-index c.loop-count-test.true)

pub returns-then-not-part_is_taken : goal.returns-then-not-part_is_taken
returns-then-not-part_is_taken c = let l = c.loop-count in
    sym (rw (sym c.if-not-part_is_taken.ensures) at (parts-step c.args.counts.now c.args.neighbours.now l.count-index l.from c.loop-count-test.true)) ∙ l.invariant.taken

pub loop-count-preserved : goal.loop-count-preserved
loop-count-preserved c = let l = c.loop-count in record {
  rest = omega (arith, l.invariant.rest, sum-on c.args.counts.now l.count-index c.loop-count-test.true);
  taken = sym (rw (sym c.if-not-part_is_taken.ensures) at (parts-step c.args.counts.now c.args.neighbours.now l.count-index l.from c.loop-count-test.true)) ∙ l.invariant.taken;
}

pub returns : goal.returns
returns c = let l = c.loop-count in
    sym (parts-end c.args.counts.now c.args.neighbours.now l.count-index l.from c.loop-count-test.false (omega (arith, l.invariant.rest, sum-end c.args.counts.now l.count-index c.loop-count-test.false))) ∙ l.invariant.taken
