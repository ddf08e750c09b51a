use mathlib.Core.List.{◌++◌}
use native.Mathlib.Omega.{arith}
use lib.ListN.{length-append}
use Rattle.text.specs.Bytes.{bytes}
use Rattle.text.specs.Decimal.{decimal}
use Rattle.text_write.proofs.Written.{wrote_none, and_both, room_after}
use Rattle.script_answers.specs.Answers.{refused, line_of}
use Rattle.script_answers.proofs.answers.say_refused.Goals as goal

pub put_word-number-requires : goal.put_word-number-requires
unfolding line_of
put_word-number-requires c =
    let a = c.args in
    room_after (bytes "refused ") (line_of (refused a.n)) (wrote_none a.out.now a.at) c.requires (simp length-append (omega arith))

pub put_then-requires : goal.put_then-requires
unfolding line_of
put_then-requires c =
    let a = c.args in
    room_after (decimal a.n ++ bytes "\n") (line_of (refused a.n)) c.put_word-number.ensures c.requires (simp length-append (omega arith))

pub returns : goal.returns
unfolding line_of
returns c =
    let a = c.args in
    and_both (decimal a.n) (bytes "\n") c.put_word-number.ensures
    c.put_then.ensures
