-- `script_marks::mark_words::put_line` meets its contract: its parts one after another, each where the one before it ends.
use Rattle.std.proofs.Common.{arith, length-append, rules}
use Rattle.text.specs.Bytes.{bytes}
use Rattle.text_write.proofs.Written.{wrote_none, and_then, room_after}
use Rattle.marks.specs.declared.types.Mark.TheVariants.{Line}
use Rattle.script_marks.specs.inner.Floats.{point_in, mark_in}
use borrow.Author.Rules.{rules}
use Rattle.script_marks.proofs.mark_words.put_line.Statement.{statement}
use Rattle.script_marks.proofs.mark_words.put_line.Tie as tie

put-word-requires : tie.Need-put_word-upper-requires
unfolding mark_in
put-word-requires c κs =
    let s = c in let a = s.args in
    room_after (bytes "line ") (mark_in (Line a.a a.b)) (wrote_none a.out.now a.at) s.requires (simp length-append (omega arith))

put-point-requires : tie.Need-put_point-space-requires
unfolding mark_in
put-point-requires c κs =
    let s = c in let a = s.args in
    room_after (point_in a.a) (mark_in (Line a.a a.b)) c.put_word-upper.ensures s.requires (simp length-append (omega arith))

put-word-requires-2 : tie.Need-put_word-lower-requires
unfolding mark_in
put-word-requires-2 c κs =
    let s = c in let a = s.args in
    room_after (bytes " ") (mark_in (Line a.a a.b)) (and_then c.put_word-upper.ensures c.put_point-space.ensures) s.requires (simp length-append (omega arith))

put-point-requires-2 : tie.Need-put_point-requires
unfolding mark_in
put-point-requires-2 c κs =
    let s = c in let a = s.args in
    room_after (point_in a.b) (mark_in (Line a.a a.b)) (and_then (and_then c.put_word-upper.ensures c.put_point-space.ensures) c.put_word-lower.ensures) s.requires (simp length-append (omega arith))

returns : tie.Need-returns
unfolding mark_in
returns c =
    and_then (and_then (and_then c.put_word-upper.ensures
    c.put_point-space.ensures)
    c.put_word-lower.ensures)
    c.put_point.ensures

pub put_line_spec : {M : Type 1} → statement M
put_line_spec =
    tie.close
    (tie.spec put-word-requires put-point-requires put-word-requires-2 put-point-requires-2 (λ c. search rules) returns)
