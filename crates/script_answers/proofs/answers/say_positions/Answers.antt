use native.Mathlib.Omega.{arith}
use lib.ListN.{length-append}
use Rattle.text.specs.Bytes.{bytes}
use Rattle.text_write.proofs.Written.{wrote_none, and_then, room_after}
use Rattle.script_answers.specs.Answers.{positions, position_words, line_of}
use Rattle.script_answers.proofs.answers.say_positions.Goals as goal

pub put_word-words-requires : goal.put_word-words-requires
unfolding line_of
put_word-words-requires c =
    let a = c.args in
    room_after (bytes "ok") (line_of (positions a.xs.now)) (wrote_none a.out.now a.at) c.requires (simp length-append (omega arith))

pub put_positions-end-requires : goal.put_positions-end-requires
unfolding line_of
put_positions-end-requires c =
    let a = c.args in
    (room_after (position_words a.xs.now) (line_of (positions a.xs.now)) c.put_word-words.ensures c.requires (simp length-append (omega arith)))

pub put_word-requires : goal.put_word-requires
unfolding line_of
put_word-requires c =
    let a = c.args in
    room_after (bytes "\n") (line_of (positions a.xs.now)) (and_then c.put_word-words.ensures c.put_positions-end.ensures) c.requires (simp length-append (omega arith))

pub returns : goal.returns
unfolding line_of
returns c =
    and_then (and_then c.put_word-words.ensures
    c.put_positions-end.ensures)
    c.put_word.ensures
