-- `script_marks::numbers::put_point` meets its contract: its parts one after another, each where the one before it ends.
use Rattle.std.proofs.Common.{arith, length-append, rules}
use Rattle.text.specs.Bytes.{bytes}
use Rattle.text_write.proofs.Written.{wrote_none, and_then, room_after}
use Rattle.script_marks.specs.inner.Floats.{across_in, down_in, point_in}
use borrow.Author.Rules.{rules}
use Rattle.script_marks.proofs.numbers.put_point.Statement.{statement}
use Rattle.script_marks.proofs.numbers.put_point.Tie as tie

put-across-requires : tie.Need-put_across-space-requires
put-across-requires c κs =
    let s = c in let a = s.args in
    room_after (across_in a.q.x) (point_in a.q) (wrote_none a.out.now a.at) s.requires (simp length-append (omega arith))

put-word-requires : tie.Need-put_word-down-requires
put-word-requires c κs =
    let s = c in let a = s.args in
    room_after (bytes " ") (point_in a.q) c.put_across-space.ensures s.requires (simp length-append (omega arith))

put-down-requires : tie.Need-put_down-requires
put-down-requires c κs =
    let s = c in let a = s.args in
    room_after (down_in a.q.y) (point_in a.q) (and_then c.put_across-space.ensures c.put_word-down.ensures) s.requires (simp length-append (omega arith))

returns : tie.Need-returns
returns c =
    and_then (and_then c.put_across-space.ensures
    c.put_word-down.ensures)
    c.put_down.ensures

pub put_point_spec : {M : Type 1} → statement M
put_point_spec =
    tie.close
    (tie.spec put-across-requires put-word-requires put-down-requires (λ c. search rules) returns)
