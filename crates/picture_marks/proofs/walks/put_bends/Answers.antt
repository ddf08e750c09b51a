use lib.ListN.{length}
use Rattle.picture_marks.specs.inner.Listed.{vertex_bend}
use Rattle.picture_marks.proofs.Walk.{walk_none, walk-room, walk_more}
use Rattle.picture_marks.proofs.walks.put_bends.Goals as goal

pub loop-v-init : goal.loop-v-init
loop-v-init c =
    let a = c.args in
    walk_none (vertex_bend a.measure a.heights.now a.vias.now a.finals.now) a.out.now a.at

pub put_via-next-requires : goal.put_via-next-requires
put_via-next-requires c =
    let a = c.args in
    let f = vertex_bend a.measure a.heights.now a.vias.now a.finals.now in
    (c.requires.0, c.loop-v-test.true, walk-room f c.loop-v.v (length a.vias.now) c.loop-v-test.true c.requires.1 c.loop-v.invariant)

pub loop-v-preserved : goal.loop-v-preserved
loop-v-preserved c =
    let a = c.args in
    let f = vertex_bend a.measure a.heights.now a.vias.now a.finals.now in
    walk_more f c.loop-v.v c.loop-v.invariant c.put_via-next.ensures
