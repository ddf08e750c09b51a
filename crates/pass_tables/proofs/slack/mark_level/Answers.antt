use Rattle.std.proofs.Common.{◌∙◌, ℕ, arith}
use Rattle.pass_tables.specs.inner.Tables.{starts_loose}
use Rattle.pass_tables.proofs.LevelLaws.{entry-filled, entries-end}
use Rattle.pass_tables.proofs.slack.mark_level.Goals as goal

pub loop-v-preserved : goal.loop-v-preserved
loop-v-preserved c = let a = c.args in
    let l = c.loop-v in
    entry-filled (λ (u : ℕ). starts_loose a.vias.now a.doubled.now a.at.now u a.to) l.marks l.v a.to c.starts_loose.result (omega arith) (omega arith) c.starts_loose.ensures ∙ l.invariant

pub returns : goal.returns
returns c = let a = c.args in
    let l = c.loop-v in
    entries-end (λ (u : ℕ). starts_loose a.vias.now a.doubled.now a.at.now u a.to) l.marks l.v a.to (omega arith) ∙ l.invariant
