use Rattle.std.proofs.Common.{◌≡◌, ℕ, ◌≤◌, get_or, take}
use Rattle.ints.specs.Lists.{sum}
use Rattle.pass_neighbours.proofs.order.level_starts.Given as goal

abbrev pub invariant-loop-i : goal.invariant-loop-i
invariant-loop-i l = record { starts_so_far : (j : ℕ) → j ≤ l.i → get_or l.starts j 0 ≡ sum (take j l.lengths); from_is : l.from ≡ sum (take l.i l.lengths) }
