use Rattle.std.proofs.Common.{◌≡◌, ℕ, ◌-◌, ◌<◌, ◌≤◌, get_or}
use Rattle.pass_tables.specs.inner.Joins.{joined_at, first_in}
use Rattle.pass_tables.proofs.ready.nearest_after.Given as goal

abbrev pub invariant-loop-v : goal.invariant-loop-v
invariant-loop-v l = record {
  nearest : l.last ≡ first_in (joined_at l.vias l.first l.ends) l.v (l.to - l.v);
  each : (u : ℕ) → l.v ≤ u → u < l.to → get_or l.after u 0 ≡ first_in (joined_at l.vias l.first l.ends) u (l.to - u);
}
