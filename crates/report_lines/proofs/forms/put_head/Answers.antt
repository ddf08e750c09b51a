use mathlib.Core.List.{◌++◌}
use native.Mathlib.Omega.{arith}
use lib.ListN.{length-append}
use Rattle.text.specs.Bytes.{bytes}
use Rattle.text.specs.Decimal.{decimal}
use Rattle.text_write.proofs.Written.{wrote_none, and_then, and_both, room_after}
use Rattle.report_lines.specs.inner.Forms.{place_head}
use Rattle.report_lines.proofs.forms.put_head.Goals as goal

pub put_word-q-requires : goal.put_word-q-requires
unfolding place_head
put_word-q-requires c = let a = c.args in
    room_after (bytes "(place ") (place_head a.pass a.level) (wrote_none a.out.now a.at) c.requires (simp length-append (omega arith))

pub put_then-l-requires : goal.put_then-l-requires
unfolding place_head
put_then-l-requires c = let a = c.args in
    room_after (decimal a.pass ++ bytes " ") (place_head a.pass a.level) c.put_word-q.ensures c.requires (simp length-append (omega arith))

pub put_decimal-requires : goal.put_decimal-requires
unfolding place_head
put_decimal-requires c = let a = c.args in
    room_after (decimal a.level) (place_head a.pass a.level) (and_then c.put_word-q.ensures c.put_then-l.ensures) c.requires (simp length-append (omega arith))

pub returns : goal.returns
unfolding place_head
returns c = let a = c.args in
    and_then (and_both (decimal a.pass) (bytes " ") c.put_word-q.ensures c.put_then-l.ensures) c.put_decimal.ensures
