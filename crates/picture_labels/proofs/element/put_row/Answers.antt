use mathlib.Core.Bool.{cond}
use mathlib.Core.List.{[]}
use native.Mathlib.Omega.{arith}
use lib.ListN.{length-append}
use Rattle.ints.proofs.Laws.{back}
use Rattle.text.specs.Bytes.{bytes}
use Rattle.text_write.proofs.Written.{wrote_none, and_then, room_after}
use Rattle.picture_rows.specs.Escape.{escaped}
use Rattle.picture_rows.specs.Rows.{row}
use Rattle.picture_labels.specs.Label.{start_of, element_of, sign, letters}
use Rattle.picture_labels.proofs.element.put_row.Goals as goal

pub put_start-a-requires : goal.put_start-a-requires
unfolding element_of
put_start-a-requires c =
    let a = c.args in
    rw (back c.ranges.x) (
      c.requires.0,
      c.requires.1,
      room_after (start_of a.x a.y a.size a.k) (element_of a.x a.y a.size a.k (letters (row a.front.now a.cut)))
          (wrote_none a.out.now a.at) c.requires.2 (simp length-append (omega arith)),
    )

pub put_escaped-b-requires : goal.put_escaped-b-requires
unfolding element_of
put_escaped-b-requires c =
    let a = c.args in
    room_after (escaped a.front.now) (element_of a.x a.y a.size a.k (letters (row a.front.now a.cut))) (rw (back c.ranges.x) at c.put_start-a.ensures)
    c.requires.2 (simp length-append (omega arith))

pub put_sign-c-requires : goal.put_sign-c-requires
unfolding element_of
put_sign-c-requires c =
    let a = c.args in
    room_after (cond a.cut sign []) (element_of a.x a.y a.size a.k (letters (row a.front.now a.cut)))
    (and_then (rw (back c.ranges.x) at c.put_start-a.ensures) c.put_escaped-b.ensures) c.requires.2 (simp length-append (omega arith))

pub put_word-requires : goal.put_word-requires
unfolding element_of
put_word-requires c =
    let a = c.args in
    room_after (bytes "</text>") (element_of a.x a.y a.size a.k (letters (row a.front.now a.cut)))
    (and_then (and_then (rw (back c.ranges.x) at c.put_start-a.ensures) c.put_escaped-b.ensures) c.put_sign-c.ensures) c.requires.2 (simp length-append (omega arith))

pub returns : goal.returns
unfolding element_of
returns c =
    let a = c.args in
    and_then (and_then (rw (back c.ranges.x) at c.put_start-a.ensures) (and_then c.put_escaped-b.ensures c.put_sign-c.ensures)) c.put_word.ensures
