use Rattle.std.proofs.Common.{sym, ◌∙◌, arith}
use Rattle.report_validity.proofs.Decoded.{stored_is}
use Rattle.report_validity.proofs.drawing.is_drawing.Goals as goal

pub returns-then-not-all_within : goal.returns-then-not-all_within
returns-then-not-all_within c =
    λ p o. sym (stored_is p c.args.preliminary.now c.args.finals.now c.requires.1 (omega (arith, c.total-n.ensures)) ∙ rw (sym c.all_within.ensures ∙ c.if-not-all_within.true))

pub returns-then-not-all_within-2 : goal.returns-then-not-all_within-2
returns-then-not-all_within-2 c =
    λ p o. sym (stored_is p c.args.preliminary.now c.args.finals.now c.requires.1 (omega (arith, c.total-n.ensures))
    ∙ rw (sym c.all_within.ensures ∙ c.if-not-all_within.false, sym c.all_within-2.ensures ∙ c.if-not-all_within-2.true))

pub returns-then-not-all_within-3 : goal.returns-then-not-all_within-3
returns-then-not-all_within-3 c =
    λ p o. sym (stored_is p c.args.preliminary.now c.args.finals.now c.requires.1 (omega (arith, c.total-n.ensures))
    ∙ rw (
      sym c.all_within.ensures ∙ c.if-not-all_within.false,
      sym c.all_within-2.ensures ∙ c.if-not-all_within-2.false,
      sym (rw c.total-n.ensures at c.all_within-3.ensures) ∙ c.if-not-all_within-3.true,
    ))

pub returns : goal.returns
returns c =
    λ p o. c.are_placings.ensures p o
    ∙ sym (stored_is p c.args.preliminary.now c.args.finals.now c.requires.1 (omega (arith, c.total-n.ensures))
    ∙ rw (
      sym c.all_within.ensures ∙ c.if-not-all_within.false,
      sym c.all_within-2.ensures ∙ c.if-not-all_within-2.false,
      sym (rw c.total-n.ensures at c.all_within-3.ensures) ∙ c.if-not-all_within-3.false,
    ))
