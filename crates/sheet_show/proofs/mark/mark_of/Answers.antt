-- By the number of marks.
use Rattle.std.proofs.Common.{arith, sym, ap, ◌∙◌}
use Rattle.ints.specs.Refusals.{gives}
use Rattle.sheet_show.proofs.ShowLaws.{no-mark, a-mark}
use Rattle.sheet_data.proofs.Rooms.{few}
use Rattle.sheet_show.proofs.mark.mark_of.Goals as goal

pub overflow_add-counts : goal.overflow_add-counts
overflow_add-counts c = let f = few c.args.plan c.args.drawing c.args.counts c.requires in omega arith

pub returns-then-n-counts : goal.returns-then-n-counts
returns-then-n-counts c = let a = c.args in sym (no-mark a.plan a.drawing a.counts a.n c.if-n-counts.true)

pub returns : goal.returns
returns c = let a = c.args in ap gives c.mark_with.ensures ∙ sym (a-mark a.plan a.drawing a.counts a.n c.if-n-counts.false)
