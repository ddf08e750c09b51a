-- The name fits its word, and what follows it is its value.
use mathlib.Core.Path.{sym, ◌∙◌}
use native.Mathlib.Omega.{arith}
use lib.ListN.{length, drop_of_length-le}
use Rattle.text_scan.proofs.Lines.{has, has-not}
use Rattle.script_words.proofs.PartLaws.{rest}
use Rattle.script_runs.proofs.NameLaws.{value-here, value_on, value_none, part-after}
use Rattle.script_runs.proofs.names.value.Goals as goal

pub returns-then-word_at : goal.returns-then-word_at
returns-then-word_at c =
    let a = c.args in let l = c.loop-from in let e = c.end_of-to in
    part-after (length a.name.now) l.from e.result a.given.now
    ∙ sym (value-here a.name.now a.given.now l.from e.result e.ensures _ (has c.word_at.ensures c.if-word_at.true)) ∙ l.invariant.1

pub returns-then-to-given : goal.returns-then-to-given
returns-then-to-given c =
    let a = c.args in let l = c.loop-from in let e = c.end_of-to in
    rest e.result a.given.now ∙ drop_of_length-le a.given.now c.if-to-given.true
    ∙ sym (value_none a.name.now a.given.now l.from e.result e.ensures (has-not c.word_at.ensures c.if-word_at.false) c.if-to-given.true) ∙ l.invariant.1

pub loop-from-preserved : goal.loop-from-preserved
loop-from-preserved c =
    let a = c.args in let l = c.loop-from in let e = c.end_of-to in
    (omega arith, sym (value_on a.name.now a.given.now l.from e.result e.ensures (has-not c.word_at.ensures c.if-word_at.false) c.if-to-given.false) ∙ l.invariant.1)
