use Rattle.std.proofs.Common.{◌+◌, ◌-◌, ◌≤◌, length}
use Rattle.picture_names.proofs.NameLaws.{SoFar}
use Rattle.picture_names.proofs.index.index_lines.Given as goal

-- before each line the names so far stand where the arrays say
abbrev pub invariant-loop-from : goal.invariant-loop-from
invariant-loop-from l = (l.from ≤ length l.names) × (l.line ≤ l.from + 1) × SoFar l.vias l.names l.starts l.ends l.from l.line

abbrev pub decreases-loop-from : goal.decreases-loop-from
decreases-loop-from l = length l.names + 1 - l.from
