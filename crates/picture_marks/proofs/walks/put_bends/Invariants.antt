use Rattle.text_write.specs.inner.Written.{Wrote}
use Rattle.picture_marks.specs.inner.Listed.{walked, vertex_bend}
use Rattle.picture_marks.proofs.walks.put_bends.Given as goal

-- the bends of the first v vertices are written
abbrev pub invariant-loop-v : goal.invariant-loop-v
invariant-loop-v l = Wrote (walked (vertex_bend l.measure l.heights l.vias l.finals) l.v) l.fn.out l.at l.next l.out
