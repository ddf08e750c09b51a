use mathlib.Core.List.{◌++◌}
use native.Mathlib.Omega.{arith}
use lib.ListN.{length-append}
use Rattle.ints.proofs.Laws.{back}
use Rattle.text.specs.Bytes.{bytes}
use Rattle.text.specs.Decimal.{decimal}
use Rattle.text_write.proofs.Written.{wrote_none, and_both, room_after}
use Rattle.picture_labels.specs.Label.{start_of, element_of, number_size}
use Rattle.picture_labels.proofs.label.put_number.Goals as goal

pub put_start-next-requires : goal.put_start-next-requires
unfolding element_of
put_start-next-requires c =
    let a = c.args in
    rw (back c.ranges.x) (rw c.number_size-size.ensures (
      omega (arith, c.requires.0.across),
      omega (arith, c.requires.0.down),
      room_after (start_of a.x a.y (number_size a.hw a.measure a.number) 2)
          (element_of a.x a.y (number_size a.hw a.measure a.number) 2 (decimal a.number)) (wrote_none a.out.now a.at) c.requires.1
          (simp length-append (omega arith)),
    ))

pub put_then-requires : goal.put_then-requires
unfolding element_of
put_then-requires c =
    let a = c.args in
    room_after (decimal a.number ++ bytes "</text>") (element_of a.x a.y (number_size a.hw a.measure a.number) 2 (decimal a.number))
    (rw (back c.ranges.x) at (rw c.number_size-size.ensures at c.put_start-next.ensures)) c.requires.1 (simp length-append (omega arith))

pub returns : goal.returns
unfolding element_of
returns c =
    let a = c.args in
    and_both (decimal a.number) (bytes "</text>") (rw (back c.ranges.x) at (rw c.number_size-size.ensures at c.put_start-next.ensures)) c.put_then.ensures
