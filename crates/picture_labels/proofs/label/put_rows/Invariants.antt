use Rattle.std.proofs.Common.{◌+◌, ◌-◌, ◌*◌, ◌≤◌, length, drop}
use Rattle.report_lines.proofs.Partly.{Partly}
use Rattle.picture_rows.specs.Rows.{rows}
use Rattle.picture_labels.specs.Label.{elements}
use Rattle.picture_labels.proofs.label.put_rows.Given as goal

-- the rows so far are written, and those of what is left of the name are left
abbrev pub invariant-loop-count : goal.invariant-loop-count
invariant-loop-count l =
    (l.start ≤ length l.name + 1)
    × Partly (elements l.x l.y l.size l.first (rows l.cols 3 l.name)) (elements l.x l.y l.size (l.first + 2 * l.count) (rows l.cols (3 - l.count) (drop l.start l.name))) l.fn.out l.from l.at l.out
