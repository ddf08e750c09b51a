use Rattle.text_write.specs.inner.Written.{Wrote}
use Rattle.picture_marks.specs.inner.Listed.{walked, segment_line}
use Rattle.picture_marks.proofs.walks.put_lines.Given as goal

-- the lines of the first k segments are written
abbrev pub invariant-loop-k : goal.invariant-loop-k
invariant-loop-k l = Wrote (walked (segment_line l.measure l.heights l.uppers l.lowers l.ratings l.finals) l.k) l.fn.out l.at l.next l.out
