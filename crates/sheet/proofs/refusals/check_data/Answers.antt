-- By the plan's refusal, and the test of the drawing.
use Rattle.std.proofs.Common.{◌≡◌, sym, ap, ◌∙◌, Err, rules}
use Rattle.ints.specs.Refusals.{refused_by}
use Rattle.ints.proofs.Refusals.{has-number}
use Rattle.sheet.proofs.DataLaws.{refused-early, plan-holds, no-drawing, all}
use Rattle.sheet.proofs.refusals.check_data.Goals as goal

pub returns-in_err-check_plan : goal.returns-in_err-check_plan
returns-in_err-check_plan c =
    let a = c.args in
    let e : c.from_residual.result ≡ Err c.in_err-check_plan.field-0.0 = search rules in
    rw e (refused-early a.plan a.remembered a.drawing a.counts _ c.in_err-check_plan.ensures (has-number _))

pub is_drawing_of-requires : goal.is_drawing_of-requires
is_drawing_of-requires c =
    let a = c.args in
    plan-holds a.plan a.remembered a.drawing a.counts _ c.check_plan.ensures (ap refused_by c.in_ok-check_plan.was)

pub returns-then-is_drawing_of : goal.returns-then-is_drawing_of
returns-then-is_drawing_of c =
    let a = c.args in
    all a.plan a.remembered a.drawing a.counts _ c.check_plan.ensures (ap refused_by c.in_ok-check_plan.was)
    (sym c.is_drawing_of.ensures ∙ c.if-is_drawing_of.true)

pub returns : goal.returns
returns c =
    let a = c.args in
    no-drawing a.plan a.remembered a.drawing a.counts _ c.check_plan.ensures (ap refused_by c.in_ok-check_plan.was)
    (sym c.is_drawing_of.ensures ∙ c.if-is_drawing_of.false)
