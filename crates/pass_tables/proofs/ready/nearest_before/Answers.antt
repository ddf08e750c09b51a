use Rattle.std.proofs.Common.{◌≡◌, ◌∙◌, ap, sym, ℕ, ◌+◌, ◌-◌, arith}
use Rattle.pass_tables.specs.inner.Joins.{joined_at, last_in, or_else}
use Rattle.pass_tables.proofs.JoinLaws.{stored-up, last_none, last_on}
use Rattle.pass_tables.proofs.ready.nearest_before.Goals as goal

pub loop-v-init : goal.loop-v-init
loop-v-init c = record { nearest = sym (last_none _ _ _ (omega arith)); each = λ u h k. absurd (omega arith) }

pub loop-v-preserved : goal.loop-v-preserved
loop-v-preserved c = let a = c.args in
    let l = c.loop-v in
    let f = joined_at a.vias.now a.first.now a.ends.now in
    let next : c.or_else-last.result ≡ last_in f a.from (l.v + 1 - a.from) =
    c.or_else-last.ensures ∙ ap (λ (n : ℕ). or_else n l.last) c.joined_via.ensures ∙ ap (λ (n : ℕ). or_else (f l.v) n) l.invariant.nearest ∙ sym (last_on f a.from l.v (omega arith)) in
    record { nearest = next; each = stored-up l.before l.v c.or_else-last.result (λ (u : ℕ). last_in f a.from (u + 1 - a.from)) (omega arith) next a.from l.invariant.each }
