use Rattle.std.proofs.Common.{◌≡◌, ℕ, ◌+◌, ◌-◌, ◌<◌, ◌≤◌, get_or}
use Rattle.pass_tables.specs.inner.Joins.{joined_at, last_in}
use Rattle.pass_tables.proofs.ready.nearest_before.Given as goal

abbrev pub invariant-loop-v : goal.invariant-loop-v
invariant-loop-v l = record {
  nearest : l.last ≡ last_in (joined_at l.vias l.first l.ends) l.from (l.v - l.from);
  each : (u : ℕ) → l.from ≤ u → u < l.v → get_or l.before u 0 ≡ last_in (joined_at l.vias l.first l.ends) l.from (u + 1 - l.from);
}
