use native.Mathlib.Omega.{arith}
use lib.ListN.{get_or}
use Rattle.ints.proofs.Reach.{within-at}
use Rattle.passes.specs.State.{position_of}
use Rattle.picture_elements.specs.inner.Near.{NearBox}
use Rattle.picture_view.proofs.MeasureLaws.{stored_at}
use Rattle.picture_marks.proofs.walks.put_boxed.Goals as goal

pub put_box-requires : goal.put_box-requires
put_box-requires c =
    let a = c.args in
    let v = a.v in
    let xs = a.finals.now in
    let p = c.requires.0.boxes in
    let b = p.bends in
    let st = b.stands in
    let near : NearBox a.measure v (position_of xs v) (get_or a.heights.now v 0) (get_or a.halves.now v 0) = record {
      vertex = record { measure = b.measure; number = omega (arith, st.few, b.kinds, c.requires.1); point = (within-at xs v st.within, st.low v (omega (arith, b.kinds, c.requires.1))) };
      some = p.some;
      wide = p.wide v c.requires.1 c.if-vias-v.false;
      narrow = p.narrow v;
    } in
    rw (stored_at xs v st.within) (near, rw c.if-vias-v.false at c.requires.2)
