use Rattle.text_write.proofs.AgainLaws.{refused-short}
use Rattle.text_write.proofs.Written.{room_after, and_both, front_of}
use Rattle.text_write.specs.Again.{refused_line}
use Rattle.text.specs.Decimal.{decimal}
use Rattle.text.specs.Bytes.{bytes}
use lib.ListN.{length-append}
use mathlib.Core.List.{◌++◌}
use native.Mathlib.Omega.{arith}
use Rattle.text_write.proofs.again.refuse.Goals as goal

pub put_then-requires : goal.put_then-requires
unfolding refused_line
put_then-requires c =
    rw c.from.ensures (room_after (decimal c.args.n ++ bytes ")\n") (refused_line c.args.n) c.put_word-at.ensures (omega (arith, refused-short c.args.n (omega (arith, c.ranges.n)), c.requires)) (simp length-append (omega arith)))

pub returns : goal.returns
unfolding refused_line
returns c =
    let t = rw c.from.ensures at c.put_then.ensures in
    front_of (and_both (decimal c.args.n) (bytes ")\n") c.put_word-at.ensures t) (omega (arith, refused-short c.args.n (omega (arith, c.ranges.n)), c.requires))
