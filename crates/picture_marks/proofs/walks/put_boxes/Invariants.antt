use Rattle.text_write.specs.inner.Written.{Wrote}
use Rattle.picture_names.specs.inner.Indexed.{name_at}
use Rattle.picture_marks.specs.inner.Listed.{walked, vertex_box}
use Rattle.picture_marks.proofs.walks.put_boxes.Given as goal

-- the boxes of the first v vertices are written
abbrev pub invariant-loop-v : goal.invariant-loop-v
invariant-loop-v l = Wrote (walked (vertex_box l.measure l.heights l.vias l.halves l.finals (name_at l.names l.starts l.ends)) l.v) l.fn.out l.at l.next l.out
