-- at each turn the classes from c on are still to be shifted, and are as placed
use Rattle.std.proofs.Common.{◌-◌, ◌*◌, length}
use Rattle.prelim_shifts.specs.inner.Shifts.{Spread}
use Rattle.prelim_shifts.proofs.ShiftLaws.{Shifting}
use Rattle.prelim_shifts.proofs.shift.shift_each.Given as goal

abbrev pub invariant-loop-c : goal.invariant-loop-c
invariant-loop-c l = record {
  spread : Spread l.c (512500 * l.c - 500) l.classes l.xs;
  shifting : Shifting l.gap l.halves l.order l.right l.uppers l.lowers l.classes (length l.pair_head - 1) l.c l.xs l.initial.xs;
}
