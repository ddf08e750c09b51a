-- The value of all digits is that of those from the index on, after the value so far; and no digit is passed that is none.
use Rattle.std.proofs.Common.{◌≡◌, ◌<◌, ◌^◌, true, drop}
use Rattle.plan.specs.Checks.{every}
use Rattle.text.specs.Parser.{is_digit}
use Rattle.script_words.specs.Numbers.{value_from}
use Rattle.script_words.proofs.numbers.value.Given as goal

abbrev pub invariant-loop-b : goal.invariant-loop-b
invariant-loop-b l =
    (l.n < 2 ^ 64) × (every is_digit (drop l.b-index l.word) ≡ true) × (value_from l.n (drop l.b-index l.word) ≡ value_from 0 l.word)
