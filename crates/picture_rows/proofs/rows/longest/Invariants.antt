use Rattle.std.proofs.Common.{◌≡◌, ◌*◌, ◌≤◌, take}
use Rattle.picture_rows.specs.Rows.{columns, last_of}
use Rattle.picture_rows.specs.inner.Found.{stops}
use Rattle.picture_rows.proofs.RowLaws.{ends_at}
use Rattle.picture_rows.proofs.rows.longest.Given as goal

-- the last end up to i, and the columns up to i
abbrev pub invariant-loop-i : goal.invariant-loop-i
invariant-loop-i l = (l.wide ≤ 2 * l.i) × (l.wide ≡ columns (take l.i l.name)) × (l.end ≡ last_of (ends_at (stops l.words) l.most l.name) l.i)
