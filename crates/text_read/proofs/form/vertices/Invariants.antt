-- What was found and stored so far; the text from the position on is still to be read.
use Rattle.std.proofs.Common.{◌-◌, length}
use Rattle.text_read.proofs.Rows.{RowSoFar}
use Rattle.text_read.proofs.form.vertices.Given as goal

abbrev pub invariant-loop-v : goal.invariant-loop-v
invariant-loop-v l = RowSoFar l.text l.fn.from l.first l.fn.vias l.fn.halves l.vias l.halves l.at l.count l.fit

abbrev pub decreases-loop-v : goal.decreases-loop-v
decreases-loop-v l = length l.text - l.at
