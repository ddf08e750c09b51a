use Rattle.std.proofs.Common.{◌≡◌, ◌≤◌, ◌+◌, drop}
use Rattle.prelim_shifts.specs.inner.Counts.{count_to}
use Rattle.prelim_shifts.proofs.middle.count_to.Given as goal

abbrev pub invariant-loop-x : goal.invariant-loop-x
invariant-loop-x l = record {
  within : l.count ≤ l.x-index;
  whole : l.count + count_to l.z (drop l.x-index l.xs) ≡ count_to l.z l.xs;
}
