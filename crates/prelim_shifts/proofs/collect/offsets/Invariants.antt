-- at each turn those before i are collected
use Rattle.std.proofs.Common.{ℕ, ◌-◌, length, get_or}
use Rattle.prelim_shifts.specs.inner.Shifts.{offset}
use Rattle.prelim_shifts.proofs.CollectLaws.{Collecting}
use Rattle.prelim_shifts.proofs.collect.offsets.Given as goal

abbrev pub invariant-loop-i : goal.invariant-loop-i
invariant-loop-i l = Collecting (λ (k : ℕ). offset l.c l.classes l.xs (get_or l.uppers k 0) (get_or l.lowers k 0)) l.link l.first l.s l.i l.out l.initial.out

abbrev pub decreases-loop-i : goal.decreases-loop-i
decreases-loop-i l = length l.link - l.i
