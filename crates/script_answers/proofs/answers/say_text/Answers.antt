use mathlib.Core.List.{◌++◌}
use native.Mathlib.Omega.{arith}
use lib.ListN.{length, length-append}
use Rattle.text.specs.Bytes.{bytes}
use Rattle.text.specs.Decimal.{decimal}
use Rattle.text_write.proofs.Written.{wrote_none, and_then, and_both, room_after}
use Rattle.script_answers.specs.Answers.{text, line_of}
use Rattle.script_answers.proofs.answers.say_text.Goals as goal

pub put_word-length-requires : goal.put_word-length-requires
unfolding line_of
put_word-length-requires c =
    let a = c.args in
    room_after (bytes "ok ") (line_of (text a.line.now)) (wrote_none a.out.now a.at) c.requires (simp length-append (omega arith))

pub put_then-words-requires : goal.put_then-words-requires
unfolding line_of
put_then-words-requires c =
    let a = c.args in
    room_after (decimal (length a.line.now) ++ bytes " ") (line_of (text a.line.now)) c.put_word-length.ensures c.requires (simp length-append (omega arith))

pub put_word-requires : goal.put_word-requires
unfolding line_of
put_word-requires c =
    let a = c.args in
    room_after a.line.now (line_of (text a.line.now)) (and_then c.put_word-length.ensures c.put_then-words.ensures) c.requires (simp length-append (omega arith))

pub returns : goal.returns
unfolding line_of
returns c =
    let a = c.args in
    and_then (and_both (decimal (length a.line.now)) (bytes " ") c.put_word-length.ensures
    c.put_then-words.ensures)
    c.put_word.ensures
