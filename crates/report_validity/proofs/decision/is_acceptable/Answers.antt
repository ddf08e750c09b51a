use Rattle.std.proofs.Common.{sym, ◌∙◌}
use Rattle.ints.proofs.Refusals.{is-ok}
use Rattle.plan.proofs.LimitLaws.{limits}
use Rattle.report_validity.proofs.Limits.{accept-not, accept-first}
use Rattle.report_validity.proofs.decision.is_acceptable.Goals as goal

pub returns-then-not-limits_hold : goal.returns-then-not-limits_hold
returns-then-not-limits_hold c = sym (accept-not _ (sym c.limits_hold.ensures ∙ c.if-not-limits_hold.true))

pub check_plan-requires : goal.check_plan-requires
check_plan-requires c = (limits _ (sym c.limits_hold.ensures ∙ c.if-not-limits_hold.false)).lists

pub returns : goal.returns
returns c = c.is_ok.ensures.value ∙ is-ok c.check_plan.result ∙ accept-first _ _ (sym c.limits_hold.ensures ∙ c.if-not-limits_hold.false) c.check_plan.ensures
