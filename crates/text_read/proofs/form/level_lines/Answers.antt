-- `text_read::form::level_lines` meets its contract: the loop follows `many`: `RowsSoFar` says what was found and stored. A line that begins as a level line and is not in
-- the form ends it.
use mathlib.Core.Path.{refl, ◌≡◌, ◌∙◌}
use mathlib.Core.Bool.{false}
use borrow.Author.Tests.{not-true, not-false}
use Rattle.text_read.proofs.Levels.{rows_none, rows_more, rows_end, rows-broken}
use Rattle.text_scan.proofs.Lines.{has, has-not}
use Rattle.text_read.proofs.form.level_lines.Goals as goal

pub loop-from-init : goal.loop-from-init
loop-from-init c =
    let a = c.args in rows_none a.text.now a.from a.sizes.now a.vias.now a.halves.now c.requires.0

pub returns-then-not-word_at : goal.returns-then-not-word_at
returns-then-not-word_at c =
    let a = c.args in rows_end a.text.now a.from a.sizes.now a.vias.now a.halves.now c.loop-from.invariant (has-not c.word_at.ensures c.if-not-word_at.true)

pub returns-then-not-row : goal.returns-then-not-row
returns-then-not-row c =
    let a = c.args in let l = c.level_rest-row in
    let f : l.result.form ≡ false = not-true _ c.if-not-row.true in
    rows-broken a.text.now a.from a.sizes.now a.vias.now a.halves.now c.loop-from.invariant (has c.word_at.ensures c.if-not-word_at.false) (l.ensures.gives ∙ rw f)

pub loop-from-preserved : goal.loop-from-preserved
loop-from-preserved c =
    let a = c.args in let l = c.level_rest-row in
    rows_more a.text.now a.from a.sizes.now a.vias.now a.halves.now c.loop-from.invariant l.result l.ensures (not-false _ c.if-not-row.false) (has c.word_at.ensures c.if-not-word_at.false) c.put.ensures refl l.auto.vias l.auto.halves
