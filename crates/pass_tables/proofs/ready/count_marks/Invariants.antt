use Rattle.std.proofs.Common.{◌≡◌, ℕ, ◌-◌, ◌<◌, ◌≤◌, get_or}
use Rattle.pass_tables.specs.inner.Joins.{marked_in}
use Rattle.pass_tables.proofs.ready.count_marks.Given as goal

abbrev pub invariant-loop-v : goal.invariant-loop-v
invariant-loop-v l = record {
  counted : l.count ≡ marked_in l.marks l.from (l.v - l.from);
  few : l.count ≤ l.v - l.from;
  each : (u : ℕ) → l.from ≤ u → u < l.v → get_or l.counts u 0 ≡ marked_in l.marks l.from (u - l.from);
}
