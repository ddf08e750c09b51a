use Rattle.std.proofs.Common.{◌-◌, length}
use Rattle.report_lines.specs.inner.Stored.{height_in, vertex_lines, all_vertex_lines}
use Rattle.report_lines.proofs.Partly.{Partly}
use Rattle.report_lines.proofs.whole.put_vertices.Given as goal

-- the first n lines are written, and the others are left
abbrev pub invariant-loop-n : goal.invariant-loop-n
invariant-loop-n l =
    Partly (all_vertex_lines l.preliminary l.finals (height_in l.heights)) (vertex_lines l.preliminary l.finals (height_in l.heights) l.n (length l.preliminary - l.n)) l.fn.out l.from l.at l.out
