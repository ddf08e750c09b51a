-- What was found and stored so far; the text from the position on is still to be read.
use Rattle.std.proofs.Common.{◌-◌, length}
use Rattle.text_read.proofs.Levels.{RowsSoFar}
use Rattle.text_read.proofs.form.level_lines.Given as goal

abbrev pub invariant-loop-from : goal.invariant-loop-from
invariant-loop-from l = RowsSoFar l.text l.fn.from l.fn.sizes l.fn.vias l.fn.halves l.sizes l.vias l.halves l.at l.levels l.vertices l.fit

abbrev pub decreases-loop-from : goal.decreases-loop-from
decreases-loop-from l = length l.text - l.at
