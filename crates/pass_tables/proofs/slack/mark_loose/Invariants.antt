-- the levels marked and those still to come make the same list at every turn
use Rattle.std.proofs.Common.{◌≡◌, ℕ, ◌++◌, ◌+◌, take, drop}
use Rattle.ints.specs.Lists.{sum}
use Rattle.pass_tables.specs.inner.Tables.{levelwise, starts_loose}
use Rattle.pass_tables.proofs.slack.mark_loose.Given as goal

abbrev pub invariant-loop-size : goal.invariant-loop-size
invariant-loop-size l = record {
  rest : l.from + sum (drop l.size-index l.sizes) ≡ sum l.sizes;
  marked : take l.from l.marks ++ levelwise (λ (v to : ℕ). starts_loose l.vias l.doubled l.at v to) l.from (drop l.size-index l.sizes)
      ≡ levelwise (λ (v to : ℕ). starts_loose l.vias l.doubled l.at v to) 0 l.sizes;
}
