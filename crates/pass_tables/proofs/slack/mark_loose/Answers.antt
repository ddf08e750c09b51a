use Rattle.std.proofs.Common.{◌∙◌, ◌≤◌, ℕ, length, arith}
use Rattle.ints.proofs.Lists.{sum-on, sum-end}
use Rattle.pass_tables.specs.inner.Tables.{starts_loose}
use Rattle.pass_tables.proofs.LevelLaws.{level-filled, levels-end}
use Rattle.pass_tables.proofs.slack.mark_loose.Goals as goal

pub mark_level-requires-clause-from_le_to : goal.mark_level-requires-clause-from_le_to
mark_level-requires-clause-from_le_to c = let l = c.loop-size in
    let pre = c.requires.vias_len in
    (omega arith, omega (arith, sum-on c.args.sizes.now l.size-index (omega arith)), pre.0, pre.1)

pub loop-size-preserved : goal.loop-size-preserved
loop-size-preserved c = let l = c.loop-size in
    let a = c.args in
    let d = c.mark_level in record {
      rest = omega (arith, sum-on a.sizes.now l.size-index (omega arith));
      marked = level-filled (λ (v to : ℕ). starts_loose a.vias.now a.doubled.now a.at.now v to) a.sizes.now l.from l.size-index l.marks d.new.marks _ (omega arith) (omega arith) d.ensures ∙ l.invariant.marked;
    }

pub returns : goal.returns
returns c = let l = c.loop-size in
    let a = c.args in
    let i : length a.sizes.now ≤ l.size-index = omega arith in
    levels-end (λ (v to : ℕ). starts_loose a.vias.now a.doubled.now a.at.now v to) a.sizes.now l.from l.size-index l.marks i (omega (arith, sum-end a.sizes.now l.size-index i)) ∙ l.invariant.marked
