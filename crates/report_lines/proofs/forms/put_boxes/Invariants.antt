use Rattle.std.proofs.Common.{drop}
use Rattle.passes.specs.Drawing.{boxes_with}
use Rattle.report.specs.Lines.{box_words}
use Rattle.report_lines.proofs.Partly.{Partly}
use Rattle.report_lines.proofs.forms.put_boxes.Given as goal

-- the first i boxes are written, and the words of the others are left
abbrev pub invariant-loop-i : goal.invariant-loop-i
invariant-loop-i l = Partly (box_words (boxes_with l.vertices l.positions)) (box_words (boxes_with (drop l.i l.vertices) (drop l.i l.positions))) l.fn.out l.from l.at l.out
