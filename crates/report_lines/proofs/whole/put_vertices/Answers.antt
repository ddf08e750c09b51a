use native.Mathlib.Omega.{arith}
use Rattle.report_lines.specs.inner.Stored.{height_in}
use Rattle.report_lines.proofs.Partly.{all-written}
use Rattle.report_lines.proofs.AllLines.{no-vertex, vertex-room, vertex-written}
use Rattle.report_lines.proofs.whole.put_vertices.Goals as goal

pub put_vertex-at-requires : goal.put_vertex-at-requires
put_vertex-at-requires c = let l = c.loop-n in vertex-room c.requires l.n c.loop-n-test.true l.invariant

pub loop-n-preserved : goal.loop-n-preserved
loop-n-preserved c = let l = c.loop-n in vertex-written c.requires l.n c.loop-n-test.true l.invariant c.put_vertex-at.ensures

pub returns : goal.returns
returns c =
    let a = c.args in
    all-written (no-vertex a.preliminary.now a.finals.now (height_in a.heights.now) c.loop-n.n (omega arith)) c.loop-n.invariant
