-- `script_words::numbers::is_natural` meets its contract: by the length of the word and its first byte.
use Rattle.std.proofs.Common.{sym, ◌∙◌, arith}
use borrow.Author.Tests.{eqb-true, eqb-false}
use Rattle.script_words.proofs.NumberLaws.{natural-empty, natural-one, natural-zero, natural-digits}
use Rattle.script_words.proofs.numbers.is_natural.Goals as goal

pub returns-then-is_empty : goal.returns-then-is_empty
returns-then-is_empty c = sym (natural-empty c.args.word.now (eqb-true _ 0 (sym c.is_empty.ensures ∙ c.if-is_empty.true)))

pub returns-then-word-eq1 : goal.returns-then-word-eq1
returns-then-word-eq1 c = c.is_digit.ensures ∙ sym (natural-one c.args.word.now c.if-word-eq1.true)

pub returns-then-word-eq48 : goal.returns-then-word-eq48
returns-then-word-eq48 c = sym (natural-zero c.args.word.now (let n = eqb-false _ 0 (sym c.is_empty.ensures ∙ c.if-is_empty.false) in omega arith) c.if-word-eq48.true)

pub returns : goal.returns
returns c = c.all_digits.ensures ∙ sym (natural-digits c.args.word.now (let n = eqb-false _ 0 (sym c.is_empty.ensures ∙ c.if-is_empty.false) in omega arith) c.if-word-eq48.false)
