-- `script_words::numbers::natural` meets its contract: no natural number, or the value of its digits.
use Rattle.std.proofs.Common.{sym, ◌∙◌}
use Rattle.script_words.proofs.NumberLaws.{natural-none, natural-some, natural-all}
use Rattle.script_words.proofs.numbers.natural.Goals as goal

pub returns-then-not-is_natural : goal.returns-then-not-is_natural
returns-then-not-is_natural c = sym (natural-none c.args.word.now (sym c.is_natural.ensures ∙ c.if-not-is_natural.true))

pub value-requires : goal.value-requires
value-requires c = natural-all c.args.word.now (sym c.is_natural.ensures ∙ c.if-not-is_natural.false)

pub returns : goal.returns
returns c = c.value.ensures ∙ sym (natural-some c.args.word.now (sym c.is_natural.ensures ∙ c.if-not-is_natural.false))
