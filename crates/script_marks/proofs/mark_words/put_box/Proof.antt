-- `script_marks::mark_words::put_box` meets its contract: its parts one after another, each where the one before it ends.
use Rattle.std.proofs.Common.{arith, length-append, rules}
use Rattle.text.specs.Bytes.{bytes}
use Rattle.text_write.proofs.Written.{wrote_none, and_then, room_after}
use Rattle.marks.specs.declared.types.Mark.TheVariants.{Box}
use Rattle.script_marks.specs.inner.Floats.{down_in, point_in, mark_in}
use borrow.Author.Rules.{rules}
use Rattle.script_marks.proofs.mark_words.put_box.Statement.{statement}
use Rattle.script_marks.proofs.mark_words.put_box.Tie as tie

put-word-requires : tie.Need-put_word-point-requires
unfolding mark_in
put-word-requires c κs =
    let s = c in let a = s.args in
    room_after (bytes "box ") (mark_in (Box a.q a.half)) (wrote_none a.out.now a.at) s.requires (simp length-append (omega arith))

put-point-requires : tie.Need-put_point-space-requires
unfolding mark_in
put-point-requires c κs =
    let s = c in let a = s.args in
    room_after (point_in a.q) (mark_in (Box a.q a.half)) c.put_word-point.ensures s.requires (simp length-append (omega arith))

put-word-requires-2 : tie.Need-put_word-width-requires
unfolding mark_in
put-word-requires-2 c κs =
    let s = c in let a = s.args in
    room_after (bytes " ") (mark_in (Box a.q a.half)) (and_then c.put_word-point.ensures c.put_point-space.ensures) s.requires (simp length-append (omega arith))

put-down-requires : tie.Need-put_down-requires
unfolding mark_in
put-down-requires c κs =
    let s = c in let a = s.args in
    room_after (down_in a.half) (mark_in (Box a.q a.half)) (and_then (and_then c.put_word-point.ensures c.put_point-space.ensures) c.put_word-width.ensures) s.requires (simp length-append (omega arith))

returns : tie.Need-returns
unfolding mark_in
returns c =
    and_then (and_then (and_then c.put_word-point.ensures
    c.put_point-space.ensures)
    c.put_word-width.ensures)
    c.put_down.ensures

pub put_box_spec : {M : Type 1} → statement M
put_box_spec =
    tie.close
    (tie.spec put-word-requires put-point-requires put-word-requires-2 put-down-requires (λ c. search rules) returns)
