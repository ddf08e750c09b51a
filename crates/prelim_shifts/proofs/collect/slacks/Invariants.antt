-- at each turn those before i are collected
use Rattle.std.proofs.Common.{ℕ, ◌-◌, length, get_or}
use Rattle.prelim_shifts.specs.inner.Shifts.{slack}
use Rattle.prelim_shifts.proofs.CollectLaws.{Collecting}
use Rattle.prelim_shifts.proofs.collect.slacks.Given as goal

abbrev pub invariant-loop-i : goal.invariant-loop-i
invariant-loop-i l = Collecting (λ (k : ℕ). slack l.gap l.halves l.xs (get_or l.order k 0) (get_or l.right k 0)) l.link l.first l.s l.i l.out l.initial.out

abbrev pub decreases-loop-i : goal.decreases-loop-i
decreases-loop-i l = length l.link - l.i
