use Rattle.std.proofs.Common.{◌≡◌, ◌+◌, drop}
use Rattle.ints.specs.Lists.{sum}
use Rattle.passes.specs.Stored.{placings_from}
use Rattle.report_lines.specs.inner.Stored.{place_lines}
use Rattle.report_lines.proofs.Partly.{Partly}
use Rattle.report_lines.proofs.AllLines.{left_from}
use Rattle.report_lines.proofs.whole.put_placings.Given as goal

-- k lines are written, and the boxes of the other placings start at `start`
abbrev pub invariant-loop-k : goal.invariant-loop-k
invariant-loop-k l =
    (l.start + sum (drop l.k l.counts) ≡ sum l.counts)
    × Partly (place_lines (placings_from l.passes l.levels l.counts l.vertices l.positions)) (left_from l.passes l.levels l.counts l.vertices l.positions l.k l.start) l.fn.out l.from l.at l.out
