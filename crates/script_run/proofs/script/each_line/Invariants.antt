-- What the lines from `from` on answer is still to be laid.
use Rattle.std.proofs.Common.{◌-◌, length}
use Rattle.script_run.proofs.Lines.{Reading}
use Rattle.script_run.proofs.script.each_line.Given as goal

abbrev pub invariant-loop-at : goal.invariant-loop-at
invariant-loop-at l = Reading l.script l.write l.room l.initial.out l.from l.sheet l.out l.at

abbrev pub decreases-loop-at : goal.decreases-loop-at
decreases-loop-at l = length l.script - l.from
