use mathlib.Core.List.{◌++◌}
use native.Mathlib.Omega.{arith}
use lib.ListN.{length-append}
use Rattle.text.specs.Bytes.{bytes}
use Rattle.text.specs.Decimal.{decimal}
use Rattle.text_write.proofs.Written.{wrote_none, and_both, room_after}
use Rattle.script_answers.proofs.ByCase.{walk_line, walk-crossed, walk-clear}
use Rattle.script_answers.proofs.answers.say_walk.Goals as goal

pub put_word-number-requires : goal.put_word-number-requires
put_word-number-requires c =
    let a = c.args in
    room_after (bytes "ok crossed ") (walk_line a.walk (bytes "ok crossed ")) (wrote_none a.out.now a.at) (rw (walk-crossed a.walk c.if-walk.true) at c.requires) (simp length-append (omega arith))

pub put_then-requires : goal.put_then-requires
put_then-requires c =
    let a = c.args in
    room_after (decimal a.walk.taken ++ bytes "\n") (walk_line a.walk (bytes "ok crossed ")) c.put_word-number.ensures (rw (walk-crossed a.walk c.if-walk.true) at c.requires) (simp length-append (omega arith))

pub returns-then-walk : goal.returns-then-walk
returns-then-walk c =
    let a = c.args in
    rw (walk-crossed a.walk c.if-walk.true) (and_both (decimal a.walk.taken) (bytes "\n") c.put_word-number.ensures c.put_then.ensures)

pub put_word-number-requires-2 : goal.put_word-number-requires-2
put_word-number-requires-2 c =
    let a = c.args in
    room_after (bytes "ok clear ") (walk_line a.walk (bytes "ok clear ")) (wrote_none a.out.now a.at) (rw (walk-clear a.walk c.if-walk.false) at c.requires) (simp length-append (omega arith))

pub put_then-requires-2 : goal.put_then-requires-2
put_then-requires-2 c =
    let a = c.args in
    room_after (decimal a.walk.taken ++ bytes "\n") (walk_line a.walk (bytes "ok clear ")) c.put_word-number-2.ensures (rw (walk-clear a.walk c.if-walk.false) at c.requires) (simp length-append (omega arith))

pub returns : goal.returns
returns c =
    let a = c.args in
    rw (walk-clear a.walk c.if-walk.false) (and_both (decimal a.walk.taken) (bytes "\n") c.put_word-number-2.ensures c.put_then-2.ensures)
