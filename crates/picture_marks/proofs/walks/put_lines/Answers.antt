use native.Mathlib.Omega.{arith}
use lib.ListN.{length}
use Rattle.picture_marks.specs.inner.Listed.{segment_line}
use Rattle.picture_marks.proofs.ByLists.{line-pen}
use Rattle.picture_marks.proofs.Walk.{walk_none, walk-room, walk_more}
use Rattle.picture_marks.proofs.walks.put_lines.Goals as goal

pub loop-k-init : goal.loop-k-init
loop-k-init c =
    let a = c.args in
    walk_none (segment_line a.measure a.heights.now a.uppers.now a.lowers.now a.ratings.now a.finals.now) a.out.now a.at

pub put_segment-next-requires : goal.put_segment-next-requires
put_segment-next-requires c =
    let a = c.args in
    let f = segment_line a.measure a.heights.now a.uppers.now a.lowers.now a.ratings.now a.finals.now in
    let k = c.loop-k.k in
    let p = c.requires.0 in (
      line-pen p k c.loop-k-test.true,
      p.stands,
      p.upper k c.loop-k-test.true,
      p.lower k (omega (arith, p.ends, c.loop-k-test.true)),
      walk-room f k (length a.uppers.now) c.loop-k-test.true c.requires.1 c.loop-k.invariant,
    )

pub loop-k-preserved : goal.loop-k-preserved
loop-k-preserved c =
    let a = c.args in
    let f = segment_line a.measure a.heights.now a.uppers.now a.lowers.now a.ratings.now a.finals.now in
    walk_more f c.loop-k.k c.loop-k.invariant c.put_segment-next.ensures
