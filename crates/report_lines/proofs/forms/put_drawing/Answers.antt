use mathlib.Core.List.{◌++◌}
use native.Mathlib.Omega.{arith}
use lib.ListN.{length-append}
use Rattle.text.specs.Bytes.{bytes}
use Rattle.text.specs.Decimal.{decimal}
use Rattle.text_write.proofs.Written.{wrote_none, and_then, and_both, room_after}
use Rattle.report.specs.Lines.{drawing_line}
use Rattle.report_lines.proofs.forms.put_drawing.Goals as goal

pub put_word-v-requires : goal.put_word-v-requires
unfolding drawing_line
put_word-v-requires c = let a = c.args in
    room_after (bytes "(drawing ") (drawing_line a.vertices a.placings) (wrote_none a.out.now a.at) c.requires (simp length-append (omega arith))

pub put_then-p-requires : goal.put_then-p-requires
unfolding drawing_line
put_then-p-requires c = let a = c.args in
    room_after (decimal a.vertices ++ bytes " ") (drawing_line a.vertices a.placings) c.put_word-v.ensures c.requires (simp length-append (omega arith))

pub put_then-requires : goal.put_then-requires
unfolding drawing_line
put_then-requires c = let a = c.args in
    room_after (decimal a.placings ++ bytes ")\n") (drawing_line a.vertices a.placings) (and_then c.put_word-v.ensures c.put_then-p.ensures) c.requires (simp length-append (omega arith))

pub returns : goal.returns
unfolding drawing_line
returns c = let a = c.args in
    and_both (decimal a.placings) (bytes ")\n") (and_both (decimal a.vertices) (bytes " ") c.put_word-v.ensures c.put_then-p.ensures) c.put_then.ensures
