-- What was found and stored so far; the text from the position on is still to be read.
use Rattle.std.proofs.Common.{◌-◌, length}
use Rattle.text_read.proofs.SegmentLines.{SegmentsSoFar}
use Rattle.text_read.proofs.form.segment_lines.Given as goal

abbrev pub invariant-loop-s : goal.invariant-loop-s
invariant-loop-s l = SegmentsSoFar l.text l.fn.from l.fn.uppers l.fn.lowers l.fn.ratings l.uppers l.lowers l.ratings l.at l.count l.fit

abbrev pub decreases-loop-s : goal.decreases-loop-s
decreases-loop-s l = length l.text - l.at
