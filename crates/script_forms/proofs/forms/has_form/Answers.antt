-- The next words of form and line.
use mathlib.Core.Path.{sym, ◌∙◌}
use native.Mathlib.Omega.{arith}
use Rattle.script_forms.proofs.FormLaws.{fits_not, fits-last, fits-short, fits_on}
use Rattle.script_forms.proofs.forms.has_form.Goals as goal

pub returns-then-not-stands_for : goal.returns-then-not-stands_for
returns-then-not-stands_for c =
    let a = c.args in let l = c.loop-from in
    sym (fits_not a.form.now a.line.now l.from _ l.at _ c.end_of-end.ensures c.end_of-to.ensures (sym c.stands_for.ensures ∙ c.if-not-stands_for.true))
    ∙ l.invariant.2

pub returns-then-end-form : goal.returns-then-end-form
returns-then-end-form c =
    let a = c.args in let l = c.loop-from in
    sym (fits-last a.form.now a.line.now l.from _ l.at _ c.end_of-end.ensures c.end_of-to.ensures
    (sym c.stands_for.ensures ∙ c.if-not-stands_for.false) c.if-end-form.true) ∙ l.invariant.2

pub returns-then-to-line : goal.returns-then-to-line
returns-then-to-line c =
    let a = c.args in let l = c.loop-from in
    sym (fits-short a.form.now a.line.now l.from _ l.at _ c.end_of-end.ensures c.end_of-to.ensures
    (sym c.stands_for.ensures ∙ c.if-not-stands_for.false) c.if-end-form.false c.if-to-line.true) ∙ l.invariant.2

pub loop-from-preserved : goal.loop-from-preserved
loop-from-preserved c =
    let a = c.args in let l = c.loop-from in (
      omega arith,
      omega arith,
      sym (fits_on a.form.now a.line.now l.from _ l.at _ c.end_of-end.ensures c.end_of-to.ensures
          (sym c.stands_for.ensures ∙ c.if-not-stands_for.false) c.if-end-form.false c.if-to-line.false) ∙ l.invariant.2,
    )
