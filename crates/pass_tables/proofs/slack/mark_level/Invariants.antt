-- what is marked and what is still to come make the same list at every turn
use Rattle.std.proofs.Common.{◌≡◌, ℕ, ◌++◌, ◌-◌, take}
use Rattle.pass_tables.specs.inner.Tables.{along, starts_loose}
use Rattle.pass_tables.proofs.slack.mark_level.Given as goal

abbrev pub invariant-loop-v : goal.invariant-loop-v
invariant-loop-v l = take l.v l.marks ++ along (λ (u : ℕ). starts_loose l.vias l.doubled l.at u l.to) l.v (l.to - l.v)
    ≡ take l.from l.initial.marks ++ along (λ (u : ℕ). starts_loose l.vias l.doubled l.at u l.to) l.from (l.to - l.from)
