-- Its parts one after another.
use mathlib.Core.List.{◌++◌}
use native.Mathlib.Omega.{arith}
use lib.ListN.{length-append}
use Rattle.text.specs.Bytes.{bytes}
use Rattle.text.specs.Decimal.{decimal}
use Rattle.text_write.proofs.Written.{and_both, room_after, front_of}
use Rattle.picture_text.specs.Printed.{names_refused_line}
use Rattle.picture_text.proofs.PrintLaws.{line-short}
use Rattle.picture_text.proofs.print.refuse_names.Goals as goal

pub put_then-requires : goal.put_then-requires
unfolding names_refused_line
put_then-requires c =
    let n = c.args.line in
    rw c.from.ensures (room_after (decimal n ++ bytes ")\n") (names_refused_line n) c.put_word-at.ensures (omega (arith, line-short n (omega (arith, c.ranges.line)), c.requires)) (simp length-append (omega arith)))

pub returns : goal.returns
unfolding names_refused_line
returns c =
    let n = c.args.line in
    let t = rw c.from.ensures at c.put_then.ensures in
    front_of (and_both (decimal n) (bytes ")\n") c.put_word-at.ensures t) (omega (arith, line-short n (omega (arith, c.ranges.line)), c.requires))
