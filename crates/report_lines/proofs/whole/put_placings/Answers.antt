use native.Mathlib.Omega.{arith}
use lib.ListN.{length}
use Rattle.report_lines.proofs.Partly.{all-written}
use Rattle.report_lines.proofs.AllLines.{no-placing, boxes-inside, placing-room, placing-written}
use Rattle.std.proofs.Common.{◌<◌}
use Rattle.report_lines.proofs.whole.put_placings.Goals as goal

pub put_listed-at-requires : goal.put_listed-at-requires
put_listed-at-requires c = let l = c.loop-k in placing-room c.requires l.k l.start (omega (arith, c.requires.of_counts)) l.invariant.0 l.invariant.1

pub loop-k-preserved : goal.loop-k-preserved
loop-k-preserved c =
    let l = c.loop-k in
    let k : l.k < length c.args.passes.now = omega (arith, c.requires.of_counts) in
    rw c.from-start.ensures (boxes-inside c.requires l.k l.start k l.invariant.0 l.invariant.1, placing-written c.requires l.k l.start k l.invariant.0 l.invariant.1 c.put_listed-at.ensures)

pub returns : goal.returns
returns c =
    let a = c.args in
    let l = c.loop-k in
    all-written (no-placing a.passes.now a.levels.now a.counts.now a.vertices.now a.positions.now l.k l.start (omega (arith, c.requires.of_counts))) l.invariant.1
