-- A turn passes a number that may stand there.
use mathlib.Core.Path.{sym, ◌∙◌, ap}
use native.Mathlib.Omega.{arith}
use Rattle.plan.specs.Checks.{every}
use Rattle.script_words.specs.Numbers.{number_in}
use Rattle.script_runs.specs.Lists.{may_stand, is_list}
use Rattle.script_runs.proofs.ListLaws.{items-none, items-some, every-not, every-last, every-on}
use Rattle.script_runs.proofs.lists.is_list.Goals as goal

pub returns-then-is_empty : goal.returns-then-is_empty
unfolding is_list every
returns-then-is_empty c = rw (items-none c.args.word.now (sym c.is_empty.ensures ∙ c.if-is_empty.true))

pub loop-kind-init : goal.loop-kind-init
unfolding is_list
loop-kind-init c =
    let a = c.args in
    (omega arith, sym (ap (every (λ v. may_stand a.kind (number_in v))) (items-some a.word.now (sym c.is_empty.ensures ∙ c.if-is_empty.false))))

pub returns-then-not-may_stand : goal.returns-then-not-may_stand
returns-then-not-may_stand c =
    let a = c.args in let l = c.loop-kind in
    let q = sym (c.may_stand.ensures ∙ ap (may_stand a.kind) c.number.ensures) ∙ c.if-not-may_stand.true in
    sym (every-not a.word.now l.from _ c.end_of-to.ensures (λ v. may_stand a.kind (number_in v)) q) ∙ l.invariant.1

pub returns-then-to-word : goal.returns-then-to-word
returns-then-to-word c =
    let a = c.args in let l = c.loop-kind in
    let q = sym (c.may_stand.ensures ∙ ap (may_stand a.kind) c.number.ensures) ∙ c.if-not-may_stand.false in
    sym (every-last a.word.now l.from _ c.end_of-to.ensures (λ v. may_stand a.kind (number_in v)) q c.if-to-word.true) ∙ l.invariant.1

pub loop-kind-preserved : goal.loop-kind-preserved
loop-kind-preserved c =
    let a = c.args in let l = c.loop-kind in
    let q = sym (c.may_stand.ensures ∙ ap (may_stand a.kind) c.number.ensures) ∙ c.if-not-may_stand.false in
    (omega arith, sym (every-on a.word.now l.from _ c.end_of-to.ensures (λ v. may_stand a.kind (number_in v)) q c.if-to-word.false) ∙ l.invariant.1)
