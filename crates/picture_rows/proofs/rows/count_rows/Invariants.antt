use Rattle.std.proofs.Common.{◌≡◌, ◌+◌, ◌-◌, ◌≤◌, length, drop}
use Rattle.picture_rows.specs.Rows.{rows}
use Rattle.picture_rows.proofs.rows.count_rows.Given as goal

-- the rows counted and the rows of what is left are all rows
abbrev pub invariant-loop-count : goal.invariant-loop-count
invariant-loop-count l = (l.start ≤ length l.name + 1) × (length (rows l.cols l.most l.name) ≡ l.count + length (rows l.cols (l.most - l.count) (drop l.start l.name)))
