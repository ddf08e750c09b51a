-- By 11, then 15, then what draw is refused by.
use Rattle.std.proofs.Common.{sym, ◌∙◌}
use Rattle.sheet_text.proofs.TextLaws.{refused-11, refused-15, refused-13}
use Rattle.sheet_text.proofs.refusal.check_text.Goals as goal

pub returns-then-is_empty : goal.returns-then-is_empty
returns-then-is_empty c =
    let a = c.args in
    refused-11 a.stage a.tangled a.plan a.remembered (sym c.is_empty.ensures ∙ c.if-is_empty.true)

pub returns-then-not-tangled : goal.returns-then-not-tangled
returns-then-not-tangled c =
    let a = c.args in
    refused-15 a.stage a.tangled a.plan a.remembered (sym c.is_empty.ensures ∙ c.if-is_empty.false) c.if-not-tangled.true

pub returns : goal.returns
returns c =
    let a = c.args in
    c.check_draw.ensures
    ∙ refused-13 a.stage a.tangled a.plan a.remembered (sym c.is_empty.ensures ∙ c.if-is_empty.false) c.if-not-tangled.false
