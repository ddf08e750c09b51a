use Rattle.std.proofs.Common.{◌≡◌, ◌∙◌, ap, sym, ℕ, ◌+◌, ◌-◌, arith}
use Rattle.pass_tables.specs.inner.Joins.{joined_at, first_in, or_else}
use Rattle.pass_tables.proofs.JoinLaws.{stored-down, first-none, first_on}
use Rattle.pass_tables.proofs.ready.nearest_after.Goals as goal

pub loop-v-init : goal.loop-v-init
loop-v-init c = record { nearest = sym (first-none _ _ _ (omega arith)); each = λ u h k. absurd (omega arith) }

pub loop-v-preserved : goal.loop-v-preserved
loop-v-preserved c = let a = c.args in
    let l = c.loop-v in
    let f = joined_at a.vias.now a.first.now a.ends.now in
    let e : l.v - 1 + 1 ≡ l.v = omega arith in
    let old : l.last ≡ first_in f (l.v - 1 + 1) (a.to - (l.v - 1 + 1)) = rw e l.invariant.nearest in
    let next : c.or_else-last.result ≡ first_in f (l.v - 1) (a.to - (l.v - 1)) =
    c.or_else-last.ensures ∙ ap (λ (n : ℕ). or_else n l.last) c.joined_via.ensures ∙ ap (λ (n : ℕ). or_else (f (l.v - 1)) n) old ∙ sym (first_on f (l.v - 1) a.to (omega arith)) in
    record {
      nearest = next;
      each = stored-down l.after (l.v - 1) c.or_else-last.result (λ (u : ℕ). first_in f u (a.to - u)) (omega arith) next a.to (λ u h k. l.invariant.each u (omega arith) k);
    }
