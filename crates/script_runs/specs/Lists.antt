-- Lists of numbers in a word: numbers with commas between; none in an empty word.
use Rattle.std.specs.Prelude.{Bool, true, false, List, [], ◌∷◌, map, ℕ, ℤ}
use Rattle.plan.specs.Checks.{every}
use Rattle.script_words.specs.Parts.{parts}
use Rattle.script_words.specs.declared.types.Number.{Number}
use Rattle.script_words.specs.declared.types.Number.TheVariants.{Whole, Negative, Other}
use Rattle.script_words.specs.Numbers.{number_in, is_whole, whole_of, is_signed, signed_of}
use Rattle.script_runs.specs.declared.types.Kind.{Kind}
use Rattle.script_runs.specs.declared.types.Kind.TheVariants.{Unsigned, Signed, Any}

abbrev pub items_of : List ℕ → List (List ℕ)
items_of [] = []
items_of (b ∷ w) = parts 44 (b ∷ w)

-- Which numbers may stand in a list: without a sign, with a sign, or all "within 64 bits".
abbrev pub is_number : Number → Bool
is_number (Whole n) = true
is_number (Negative z) = true
is_number Other = false

abbrev pub may_stand : Kind → Number → Bool
may_stand Unsigned n = is_whole n
may_stand Signed n = is_signed n
may_stand Any n = is_number n

unfoldable pub is_list : Kind → List ℕ → Bool
is_list k w = every (λ v. may_stand k (number_in v)) (items_of w)

-- The numbers of a list, without and with a sign. Where there may be no sign a number below 0 counts as 0.
unfoldable pub wholes_in : List ℕ → List ℕ
wholes_in w = map (λ v. whole_of (number_in v)) (items_of w)

unfoldable pub signeds_in : List ℕ → List ℤ
signeds_in w = map (λ v. signed_of (number_in v)) (items_of w)
