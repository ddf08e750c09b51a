use native.Mathlib.Omega.{arith}
use lib.ListN.{length-append}
use Rattle.text.specs.Bytes.{bytes}
use Rattle.text_write.proofs.Written.{wrote_none, and_then, room_after}
use Rattle.script_marks.specs.inner.Floats.{mark_in}
use Rattle.script_answers.specs.inner.MarkLine.{mark_line_in}
use Rattle.script_answers.proofs.answers.say_mark.Goals as goal

pub put_word-words-requires : goal.put_word-words-requires
unfolding mark_line_in
put_word-words-requires c =
    let a = c.args in
    room_after (bytes "ok ") (mark_line_in a.mark) (wrote_none a.out.now a.at) c.requires (simp length-append (omega arith))

pub put_mark-end-requires : goal.put_mark-end-requires
unfolding mark_line_in
put_mark-end-requires c =
    let a = c.args in
    room_after (mark_in a.mark) (mark_line_in a.mark) c.put_word-words.ensures c.requires (simp length-append (omega arith))

pub put_word-requires : goal.put_word-requires
unfolding mark_line_in
put_word-requires c =
    let a = c.args in
    room_after (bytes "\n") (mark_line_in a.mark) (and_then c.put_word-words.ensures c.put_mark-end.ensures) c.requires (simp length-append (omega arith))

pub returns : goal.returns
unfolding mark_line_in
returns c =
    and_then (and_then c.put_word-words.ensures
    c.put_mark-end.ensures)
    c.put_word.ensures
