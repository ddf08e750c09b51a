use native.Mathlib.Omega.{arith}
use lib.ListN.{length-append}
use Rattle.text.specs.Bytes.{bytes}
use Rattle.text_write.proofs.Written.{wrote_none, and_then, room_after}
use Rattle.passes.specs.Drawing.{boxes_with}
use Rattle.report.specs.Lines.{box_words, place_line}
use Rattle.report_lines.specs.inner.Forms.{placing, place_head}
use Rattle.report_lines.proofs.forms.put_placing.Goals as goal

pub put_head-head-requires : goal.put_head-head-requires
unfolding place_line place_head
put_head-head-requires c = let a = c.args in
    room_after (place_head a.pass a.level) (place_line (placing a.pass a.level a.vertices.now a.positions.now)) (wrote_none a.out.now a.at) c.requires.2 (simp length-append (omega arith))

pub put_boxes-boxes-requires : goal.put_boxes-boxes-requires
unfolding place_line place_head
put_boxes-boxes-requires c = let a = c.args in
    (c.requires.0, c.requires.1, room_after (box_words (boxes_with a.vertices.now a.positions.now)) (place_line (placing a.pass a.level a.vertices.now a.positions.now)) c.put_head-head.ensures c.requires.2 (simp length-append (omega arith)))

pub put_word-requires : goal.put_word-requires
unfolding place_line place_head
put_word-requires c = let a = c.args in
    room_after (bytes ")\n") (place_line (placing a.pass a.level a.vertices.now a.positions.now)) (and_then c.put_head-head.ensures c.put_boxes-boxes.ensures) c.requires.2 (simp length-append (omega arith))

pub returns : goal.returns
unfolding place_line place_head
returns c = and_then (and_then c.put_head-head.ensures c.put_boxes-boxes.ensures) c.put_word.ensures
