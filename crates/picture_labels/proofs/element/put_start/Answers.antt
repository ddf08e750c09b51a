use mathlib.Core.List.{◌++◌}
use native.Mathlib.Omega.{arith}
use lib.ListN.{length-append}
use Rattle.ints.proofs.Laws.{back}
use Rattle.text.specs.Bytes.{bytes}
use Rattle.text_write.proofs.Written.{wrote_none, and_then, and_both, room_after}
use Rattle.picture_numbers.specs.Thousandths.{amount, across, down}
use Rattle.picture_labels.specs.Label.{offset, start_of}
use Rattle.picture_labels.proofs.element.put_start.Goals as goal

pub put_across-a-requires : goal.put_across-a-requires
unfolding start_of
put_across-a-requires c =
    let a = c.args in
    rw (back c.ranges.x) (
      c.requires.0,
      room_after (bytes "<text x=\"" ++ across a.x) (start_of a.x a.y a.size a.k) (wrote_none a.out.now a.at) c.requires.2
          (simp length-append (omega arith)),
    )

pub put_down-b-requires : goal.put_down-b-requires
unfolding start_of
put_down-b-requires c =
    let a = c.args in (
      c.requires.1,
      room_after (bytes "\" y=\"" ++ down a.y) (start_of a.x a.y a.size a.k) (rw (back c.ranges.x) at c.put_across-a.ensures) c.requires.2
          (simp length-append (omega arith)),
    )

pub put_word-c-requires : goal.put_word-c-requires
unfolding start_of
put_word-c-requires c =
    let a = c.args in
    room_after (bytes "\" dy=\"") (start_of a.x a.y a.size a.k) (and_then (rw (back c.ranges.x) at c.put_across-a.ensures) c.put_down-b.ensures) c.requires.2
    (simp length-append (omega arith))

pub put_offset-d-requires : goal.put_offset-d-requires
unfolding start_of
put_offset-d-requires c =
    let a = c.args in
    room_after (offset a.k) (start_of a.x a.y a.size a.k)
    (and_then (and_then (rw (back c.ranges.x) at c.put_across-a.ensures) c.put_down-b.ensures) c.put_word-c.ensures) c.requires.2 (simp length-append (omega arith))

pub put_measured-e-requires : goal.put_measured-e-requires
unfolding start_of
put_measured-e-requires c =
    let a = c.args in
    room_after (bytes "em\" font-size=\"" ++ amount a.size) (start_of a.x a.y a.size a.k)
    (and_then (and_then (and_then (rw (back c.ranges.x) at c.put_across-a.ensures) c.put_down-b.ensures) c.put_word-c.ensures) c.put_offset-d.ensures) c.requires.2
    (simp length-append (omega arith))

pub put_word-requires : goal.put_word-requires
unfolding start_of
put_word-requires c =
    let a = c.args in
    room_after (bytes "\">") (start_of a.x a.y a.size a.k)
    (and_then (and_then (and_then (and_then (rw (back c.ranges.x) at c.put_across-a.ensures) c.put_down-b.ensures) c.put_word-c.ensures) c.put_offset-d.ensures)
    c.put_measured-e.ensures) c.requires.2 (simp length-append (omega arith))

pub returns : goal.returns
unfolding start_of
returns c =
    let a = c.args in
    and_then (and_both (bytes "em\" font-size=\"") (amount a.size) (and_then (and_then
    (and_both (bytes "\" y=\"") (down a.y) (rw (back c.ranges.x) at c.put_across-a.ensures) c.put_down-b.ensures) c.put_word-c.ensures) c.put_offset-d.ensures)
    c.put_measured-e.ensures) c.put_word.ensures
