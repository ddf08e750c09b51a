use Rattle.std.proofs.Common.{◌≡◌, ◌*◌, ◌≤◌}
use Rattle.picture_rows.specs.Rows.{widest}
use Rattle.picture_rows.proofs.ColumnLaws.{sofar}
use Rattle.picture_rows.proofs.columns.widest.Given as goal

-- the widest word so far, the word so far and what is left give the widest word of all
abbrev pub invariant-loop-b : goal.invariant-loop-b
invariant-loop-b l = (l.wide ≤ 2 * l.b-index) × (sofar l.name l.b-index l.most l.wide ≡ widest l.name)
