-- Out of order it is not taken; in order, its ends tell whether all are within reach.
use Rattle.std.proofs.Common.{◌∙◌, pos}
use Rattle.ints.proofs.Tests.{and-true, and-false}
use Rattle.place_run.proofs.RefusalLaws.{ends-within, in_order, out_of_order}
use Rattle.place_run.proofs.refusal.part_is_taken.Goals as goal

pub returns-then-is_sorted : goal.returns-then-is_sorted
returns-then-is_sorted c = let xs = c.args.positions.now in let e = in_order xs c.if-is_sorted.ensures.cases in rw (e, and-true) (c.ends_within.ensures ∙ ends-within xs e)

pub returns-else-is_sorted : goal.returns-else-is_sorted
returns-else-is_sorted c = let xs = c.args.positions.now in let w = c.if-is_sorted.ensures.cases in
    rw (out_of_order xs w.0 (pos 0) w.1 (w.2 (pos 0)), and-false) c.if-is_sorted.false
