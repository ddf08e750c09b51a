-- The first i are subtracted, the others as they were.
use Rattle.std.proofs.Common.{◌≡◌, ℕ, ◌<◌, ◌≤◌, get_or, pos, ◌-ℤ◌}
use Rattle.prelim_positions.proofs.positions.subtract.Given as goal

abbrev pub invariant-loop-i : goal.invariant-loop-i
invariant-loop-i l = record {
  before : (k : ℕ) → k < l.i → get_or l.xs k (pos 0) ≡ get_or l.initial.xs k (pos 0) -ℤ get_or l.ys k (pos 0);
  after : (k : ℕ) → l.i ≤ k → get_or l.xs k (pos 0) ≡ get_or l.initial.xs k (pos 0);
}
