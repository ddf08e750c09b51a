-- Refused or not by 11 and 13.
use Rattle.std.proofs.Common.{◌≡◌, sym, ◌∙◌}
use Rattle.sheet_draw.proofs.DrawLaws.{draws-not, draws, plan-holds, refused-with, taken-with}
use Rattle.sheet_draw.proofs.draw.draw.Goals as goal

pub returns-then-is_err : goal.returns-then-is_err
returns-then-is_err c =
    let r = refused-with (sym c.is_err.ensures.value ∙ c.if-is_err.true) in
    draws-not c.args.sheet c.check_draw-answer.result c.check_draw-answer.ensures r.0 r.1

pub draw_plan-new-requires : goal.draw_plan-new-requires
draw_plan-new-requires c =
    rw c.counts_in.ensures
    (plan-holds c.args.sheet c.check_draw-answer.result c.check_draw-answer.ensures (taken-with (sym c.is_err.ensures.value ∙ c.if-is_err.false)))

pub returns : goal.returns
returns c =
    draws c.args.sheet c.check_draw-answer.result c.check_draw-answer.ensures (taken-with (sym c.is_err.ensures.value ∙ c.if-is_err.false))
    c.counts_in.result c.counts_in.ensures c.draw_plan-new.result c.draw_plan-new.ensures c.with_drawing.ensures
