-- The next form.
use mathlib.Core.Path.{sym, ◌∙◌}
use native.Mathlib.Omega.{arith}
use Rattle.script_forms.proofs.FormLaws.{first-here, first-none, first_on}
use Rattle.script_forms.proofs.forms.first_form.Goals as goal

pub returns-then-has_form : goal.returns-then-has_form
returns-then-has_form c =
    let a = c.args in let l = c.loop-from in
    let q = first-here a.forms.now a.line.now l.from _ c.end_of-end.ensures (sym c.has_form.ensures ∙ c.if-has_form.true) in
    omega (arith, q, l.invariant.2)

pub returns-then-end-forms : goal.returns-then-end-forms
returns-then-end-forms c =
    let a = c.args in let l = c.loop-from in
    let q = first-none a.forms.now a.line.now l.from _ c.end_of-end.ensures (sym c.has_form.ensures ∙ c.if-has_form.false) c.if-end-forms.true in
    omega (arith, q, l.invariant.2)

pub loop-from-preserved : goal.loop-from-preserved
loop-from-preserved c =
    let a = c.args in let l = c.loop-from in let e = c.end_of-end in
    let q = first_on a.forms.now a.line.now l.from _ e.ensures (sym c.has_form.ensures ∙ c.if-has_form.false) c.if-end-forms.false in
    (omega arith, omega (arith, e.ensures.onward), omega (arith, q, l.invariant.2))
