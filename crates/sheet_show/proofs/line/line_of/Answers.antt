-- There are few lines, none is longer than the local buffer, and what stands there is the line.
use Rattle.std.proofs.Common.{arith, refl}
use Rattle.sheet_fit.proofs.FitLaws.{writes, front_long, front-is}
use Rattle.sheet_show.proofs.ShowLaws.{no_line, a-line}
use Rattle.sheet_data.specs.inner.Parts.{line_with}
use Rattle.sheet_data.proofs.Rooms.{few}
use Rattle.sheet_show.proofs.line.line_of.Goals as goal

pub overflow_add-counts : goal.overflow_add-counts
overflow_add-counts c = let f = few c.args.plan c.args.drawing c.args.counts c.requires.0 in omega arith

pub overflow_add-counts-2 : goal.overflow_add-counts-2
overflow_add-counts-2 c = let f = few c.args.plan c.args.drawing c.args.counts c.requires.0 in omega arith

pub returns-then-n-counts : goal.returns-then-n-counts
returns-then-n-counts c =
    let a = c.args in
    writes (no_line a.plan a.drawing a.counts a.n a.remembered a.out.now c.if-n-counts.true) (record { answered = refl; left = refl })

pub slice_bounds-room-end : goal.slice_bounds-room-end
slice_bounds-room-end c = front_long c.put_line-length.ensures

pub returns : goal.returns
returns c =
    let a = c.args in
    writes (a-line a.plan a.drawing a.counts a.n a.remembered a.out.now c.if-n-counts.false) (rw (front-is {w = line_with a.plan a.remembered a.drawing a.counts a.n} c.put_line-length.ensures) at c.fit.ensures)
