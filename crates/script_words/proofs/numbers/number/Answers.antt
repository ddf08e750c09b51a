-- `script_words::numbers::number` meets its contract: by the first byte: none, a minus sign, or another.
use Rattle.std.proofs.Common.{sym, ◌∙◌, ap}
use borrow.Author.Tests.{eqb-true, eqb-false}
use Rattle.script_words.specs.Numbers.{natural_in, negated}
use Rattle.script_words.proofs.PartLaws.{rest}
use Rattle.script_words.proofs.NumberLaws.{number-empty, number-minus, number-plain}
use Rattle.script_words.proofs.numbers.number.Goals as goal

pub returns-then-is_empty : goal.returns-then-is_empty
returns-then-is_empty c = sym (number-empty c.args.word.now (eqb-true _ 0 (sym c.is_empty.ensures ∙ c.if-is_empty.true)))

pub returns-then-word-eq45 : goal.returns-then-word-eq45
returns-then-word-eq45 c =
    let w = c.args.word.now in
    c.negative.ensures ∙ ap negated (c.natural.ensures ∙ ap natural_in (rest 1 w)) ∙ sym (number-minus w (eqb-false _ 0 (sym c.is_empty.ensures ∙ c.if-is_empty.false)) c.if-word-eq45.true)

pub returns : goal.returns
returns c = c.natural-2.ensures ∙ sym (number-plain c.args.word.now (eqb-false _ 0 (sym c.is_empty.ensures ∙ c.if-is_empty.false)) c.if-word-eq45.false)
