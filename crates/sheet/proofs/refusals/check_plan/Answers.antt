-- By the two tests.
use Rattle.std.proofs.Common.{sym, ◌∙◌}
use Rattle.sheet.proofs.DataLaws.{no-plan, no-numbers, both}
use Rattle.sheet.proofs.refusals.check_plan.Goals as goal

pub returns-then-not-is_plan_of_text : goal.returns-then-not-is_plan_of_text
returns-then-not-is_plan_of_text c =
    let a = c.args in
    no-plan a.plan a.remembered a.counts (sym c.is_plan_of_text.ensures ∙ c.if-not-is_plan_of_text.true)

pub returns-then-not-are_own : goal.returns-then-not-are_own
returns-then-not-are_own c =
    let a = c.args in
    no-numbers a.plan a.remembered a.counts (sym c.is_plan_of_text.ensures ∙ c.if-not-is_plan_of_text.false) (sym c.are_own.ensures ∙ c.if-not-are_own.true)

pub returns : goal.returns
returns c =
    let a = c.args in
    both a.plan a.remembered a.counts (sym c.is_plan_of_text.ensures ∙ c.if-not-is_plan_of_text.false) (sym c.are_own.ensures ∙ c.if-not-are_own.false)
