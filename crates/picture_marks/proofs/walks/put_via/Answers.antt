use native.Mathlib.Omega.{arith}
use Rattle.ints.proofs.Reach.{within-at}
use Rattle.picture_view.proofs.MeasureLaws.{stored_at}
use Rattle.picture_marks.proofs.walks.put_via.Goals as goal

pub put_bend-requires : goal.put_bend-requires
put_bend-requires c =
    let a = c.args in
    let xs = a.finals.now in
    let v = a.v in
    let p = c.requires.0 in
    let st = p.stands in
    rw (stored_at xs v st.within) (
      record { measure = p.measure; number = omega (arith, st.few, p.kinds, c.requires.1); point = (within-at xs v st.within, st.low v (omega (arith, p.kinds, c.requires.1))) },
      rw c.if-not-vias-v.false at c.requires.2,
    )
