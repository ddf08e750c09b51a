use mathlib.Core.List.{◌++◌}
use native.Mathlib.Omega.{arith}
use lib.ListN.{length-append}
use Rattle.ints.proofs.Laws.{back}
use Rattle.text.specs.Bytes.{bytes}
use Rattle.text.specs.Decimal.{decimal, signed}
use Rattle.text_write.proofs.Written.{wrote_none, and_then, and_both, room_after}
use Rattle.report.specs.Lines.{at_line}
use Rattle.report_lines.proofs.forms.put_at.Goals as goal

pub put_word-number-requires : goal.put_word-number-requires
unfolding at_line
put_word-number-requires c = let a = c.args in
    room_after (bytes "(at ") (at_line a.n a.p a.x a.y) (wrote_none a.out.now a.at) c.requires.2 (simp length-append (omega arith))

pub put_then-before-requires : goal.put_then-before-requires
unfolding at_line
put_then-before-requires c = let a = c.args in
    room_after (decimal a.n ++ bytes " ") (at_line a.n a.p a.x a.y) c.put_word-number.ensures c.requires.2 (simp length-append (omega arith))

pub put_position-after-requires : goal.put_position-after-requires
unfolding at_line
put_position-after-requires c =
    let a = c.args in
    let h = and_then c.put_word-number.ensures c.put_then-before.ensures in
    rw (back c.ranges.p) (c.requires.0, room_after (signed a.p ++ bytes " ") (at_line a.n a.p a.x a.y) h c.requires.2 (simp length-append (omega arith)))

pub put_position-height-requires : goal.put_position-height-requires
unfolding at_line
put_position-height-requires c = let a = c.args in
    let h = and_then (and_then c.put_word-number.ensures c.put_then-before.ensures) (rw (back c.ranges.p) at c.put_position-after.ensures) in
    rw (back c.ranges.x) (c.requires.1, room_after (signed a.x ++ bytes " ") (at_line a.n a.p a.x a.y) h c.requires.2 (simp length-append (omega arith)))

pub put_then-requires : goal.put_then-requires
unfolding at_line
put_then-requires c = let a = c.args in
    let h = and_then (and_then (and_then c.put_word-number.ensures c.put_then-before.ensures) (rw (back c.ranges.p) at c.put_position-after.ensures)) (rw (back c.ranges.x) at c.put_position-height.ensures) in
    room_after (decimal a.y ++ bytes ")\n") (at_line a.n a.p a.x a.y) h c.requires.2 (simp length-append (omega arith))

pub returns : goal.returns
unfolding at_line
returns c = let a = c.args in
    let number = and_both (decimal a.n) (bytes " ") c.put_word-number.ensures c.put_then-before.ensures in
    let before = and_both (signed a.p) (bytes " ") number (rw (back c.ranges.p) at c.put_position-after.ensures) in
    let after = and_both (signed a.x) (bytes " ") before (rw (back c.ranges.x) at c.put_position-height.ensures) in
    and_both (decimal a.y) (bytes ")\n") after c.put_then.ensures
