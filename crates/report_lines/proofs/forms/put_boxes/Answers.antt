use mathlib.Core.List.{[], ◌∷◌}
use Prim.Native.Nat.{◌+◌}
use native.Mathlib.Omega.{arith}
use lib.ListN.{get_or, drop}
use lib.IntN.{pos}
use Rattle.passes.specs.Drawing.{boxes_with}
use Rattle.report.specs.Lines.{box_words}
use Rattle.report_lines.specs.inner.Forms.{box_at}
use Rattle.report_lines.proofs.Partly.{next-room, next-written, all-written}
use Rattle.ints.proofs.Reach.{within-at}
use Rattle.report_lines.proofs.Boxes.{read_back, words-next, words-end}
use Rattle.report_lines.proofs.forms.put_boxes.Goals as goal

pub put_box-at-requires : goal.put_box-at-requires
put_box-at-requires c = let a = c.args in let i = c.loop-i.i in
    let h = within-at a.positions.now i c.requires.1 in
    rw (read_back (get_or a.positions.now i (pos 0)) h) (
      h,
      next-room (box_words (box_at (get_or a.vertices.now i 0) (get_or a.positions.now i (pos 0)) ∷ [])) (box_words (boxes_with (drop (i + 1) a.vertices.now) (drop (i + 1) a.positions.now)))
          (words-next a.vertices.now a.positions.now c.requires.0 i c.loop-i-test.true) c.loop-i.invariant c.requires.2,
    )

pub loop-i-preserved : goal.loop-i-preserved
loop-i-preserved c = let a = c.args in let i = c.loop-i.i in
    let h = within-at a.positions.now i c.requires.1 in
    next-written (box_words (box_at (get_or a.vertices.now i 0) (get_or a.positions.now i (pos 0)) ∷ [])) (box_words (boxes_with (drop (i + 1) a.vertices.now) (drop (i + 1) a.positions.now)))
    (words-next a.vertices.now a.positions.now c.requires.0 i c.loop-i-test.true) c.loop-i.invariant (rw (read_back (get_or a.positions.now i (pos 0)) h) at c.put_box-at.ensures)

pub returns : goal.returns
returns c = let a = c.args in all-written (words-end a.vertices.now a.positions.now c.requires.0 c.loop-i.i (omega arith)) c.loop-i.invariant
