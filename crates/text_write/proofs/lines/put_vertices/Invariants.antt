-- What is written so far is the vertices from `first` on and before v.
use Rattle.std.proofs.Common.{◌-◌}
use Rattle.plan.specs.Plan.{numbers}
use Rattle.text_write.specs.inner.Data.{vertices_of, row_words}
use Rattle.text_write.specs.inner.Written.{Wrote}
use Rattle.text_write.proofs.lines.put_vertices.Given as goal

abbrev pub invariant-loop-v : goal.invariant-loop-v
invariant-loop-v l = Wrote (row_words (vertices_of l.vias l.halves) (numbers l.first (l.v - l.first))) l.fn.out l.from l.at l.out
