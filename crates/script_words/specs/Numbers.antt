-- Numbers in a word: "decimal, a minus sign before negatives, within 64 bits". None has a plus sign or a leading zero, and 0 has no
-- minus sign.
use Rattle.std.specs.Prelude.{Bool, true, false, cond, not, ◌&&◌, List, [], ◌∷◌, ℕ, ◌+◌, ◌-◌, ◌*◌, ◌^◌, ltb, eqb, ℤ, pos, neg_ℤ}
use Rattle.plan.specs.Limits.{within}
use Rattle.plan.specs.Checks.{every}
use Rattle.text.specs.Parser.{is_digit}
use Rattle.script_words.specs.declared.types.Number.{Number}
use Rattle.script_words.specs.declared.types.Number.TheVariants.{Whole, Negative, Other}

-- The value of digits that follow a value v.
unfoldable pub value_from : ℕ → List ℕ → ℕ
value_from v [] = v
value_from v (b ∷ s) = value_from (v * 10 + (b - 48)) s

-- Digits alone, the first of several not 0.
unfoldable pub is_natural : List ℕ → Bool
is_natural [] = false
is_natural (b ∷ []) = is_digit b
is_natural (b ∷ c ∷ s) = not (eqb b 48) && every is_digit (b ∷ c ∷ s)

-- A number without a sign: at most 2^64 - 1.
abbrev pub whole_if : ℕ → Number
whole_if n = cond (ltb n (2 ^ 64)) (Whole n) Other

unfoldable pub natural_in : List ℕ → Number
natural_in w =
    let n = whole_if (value_from 0 w) in
    cond (is_natural w) n Other

-- What follows a minus sign: at least 1, at most 2^63.
abbrev pub negated : Number → Number
negated (Whole n) = cond (within 1 (2 ^ 63) n) (Negative (neg_ℤ (pos n))) Other
negated (Negative z) = Other
negated Other = Other

unfoldable pub number_in : List ℕ → Number
number_in [] = Other
number_in (b ∷ s) =
    let below = negated (natural_in s) in
    let above = natural_in (b ∷ s) in
    cond (eqb b 45) below above

-- A number that a place without a sign can hold, and which; 0 if it can hold none.
abbrev pub is_whole : Number → Bool
is_whole (Whole n) = true
is_whole (Negative z) = false
is_whole Other = false

abbrev pub whole_of : Number → ℕ
whole_of (Whole n) = n
whole_of (Negative z) = 0
whole_of Other = 0

-- The same of a place with a sign: from -2^63 to 2^63 - 1.
abbrev pub is_signed : Number → Bool
is_signed (Whole n) = ltb n (2 ^ 63)
is_signed (Negative z) = true
is_signed Other = false

abbrev pub signed_of : Number → ℤ
signed_of (Whole n) = cond (ltb n (2 ^ 63)) (pos n) (pos 0)
signed_of (Negative z) = z
signed_of Other = pos 0
