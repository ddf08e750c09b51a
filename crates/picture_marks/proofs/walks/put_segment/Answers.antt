use Rattle.ints.proofs.Reach.{within-at}
use Rattle.picture_view.proofs.MeasureLaws.{stored_at}
use Rattle.picture_marks.proofs.walks.put_segment.Goals as goal

pub put_line-requires : goal.put_line-requires
put_line-requires c =
    let a = c.args in
    let xs = a.finals.now in
    let v = a.a in
    let w = a.b in
    let st = c.requires.1 in
    rw (stored_at xs v st.within, stored_at xs w st.within) (
      c.requires.0,
      (within-at xs v st.within, st.low v c.requires.2),
      (within-at xs w st.within, st.low w c.requires.3),
      c.requires.4,
    )
