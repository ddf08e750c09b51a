-- at every turn too few are below the lower end, and enough do not exceed the upper
use Rattle.std.proofs.Common.{◌≤◌, ◌<◌, ◌-◌, pos, ◌+ℤ◌}
use Rattle.ints.specs.Ints.{size}
use Rattle.prelim_shifts.specs.inner.Counts.{count_to}
use Rattle.prelim_shifts.proofs.MiddleLaws.{count_below}
use Rattle.prelim_shifts.proofs.middle.middle.Given as goal

abbrev pub invariant-loop-low : goal.invariant-loop-low
invariant-loop-low l = record {
  order : l.low ≤ l.high;
  far : l.high ≤ 536870912;
  near : size l.base ≤ 268435456;
  few : count_below (l.base +ℤ pos l.low) l.xs < l.enough;
  many : l.enough ≤ count_to (l.base +ℤ pos l.high) l.xs;
}

abbrev pub decreases-loop-low : goal.decreases-loop-low
decreases-loop-low l = l.high - l.low
