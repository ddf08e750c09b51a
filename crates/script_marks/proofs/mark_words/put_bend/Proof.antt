-- `script_marks::mark_words::put_bend` meets its contract: its parts one after another, each where the one before it ends.
use Rattle.std.proofs.Common.{arith, length-append, rules}
use Rattle.text.specs.Bytes.{bytes}
use Rattle.text_write.proofs.Written.{wrote_none, and_then, room_after}
use Rattle.marks.specs.declared.types.Mark.TheVariants.{Bend}
use Rattle.script_marks.specs.inner.Floats.{point_in, mark_in}
use borrow.Author.Rules.{rules}
use Rattle.script_marks.proofs.mark_words.put_bend.Statement.{statement}
use Rattle.script_marks.proofs.mark_words.put_bend.Tie as tie

put-word-requires : tie.Need-put_word-point-requires
unfolding mark_in
put-word-requires c κs =
    let s = c in let a = s.args in
    room_after (bytes "bend ") (mark_in (Bend a.q)) (wrote_none a.out.now a.at) s.requires (simp length-append (omega arith))

put-point-requires : tie.Need-put_point-requires
unfolding mark_in
put-point-requires c κs =
    let s = c in let a = s.args in
    room_after (point_in a.q) (mark_in (Bend a.q)) c.put_word-point.ensures s.requires (simp length-append (omega arith))

returns : tie.Need-returns
unfolding mark_in
returns c =
    and_then c.put_word-point.ensures
    c.put_point.ensures

pub put_bend_spec : {M : Type 1} → statement M
put_bend_spec =
    tie.close
    (tie.spec put-word-requires put-point-requires (λ c. search rules) returns)
