-- Definitions computed on a few lines.
use mathlib.Core.Path.{◌≡◌, refl}
use mathlib.Core.List.{[], ◌∷◌}
use Prim.Native.Nat.{◌^◌, ◌-◌}
use lib.IntN.{negsuc}
use Rattle.plan.specs.Checks.{every}
use Rattle.text.specs.Bytes.{bytes}
use Rattle.script_words.specs.declared.types.Number.TheVariants.{Whole, Negative, Other}
use Rattle.script_words.specs.Parts.{parts, words}
use Rattle.script_words.specs.Numbers.{value_from, is_natural, natural_in, number_in}

line-words : words (bytes "line 1  7 ") ≡ bytes "line" ∷ bytes "1" ∷ [] ∷ bytes "7" ∷ [] ∷ []
unfolding parts
line-words = refl

record Numbers : Type 0 where
  pub zero : number_in (bytes "0") ≡ Whole 0
  pub most : number_in (bytes "18446744073709551615") ≡ Whole (2 ^ 64 - 1)
  pub more : number_in (bytes "18446744073709551616") ≡ Other
  pub least : number_in (bytes "-9223372036854775808") ≡ Negative (negsuc (2 ^ 63 - 1))
  pub less : number_in (bytes "-9223372036854775809") ≡ Other
  pub none : number_in [] ≡ Other
  pub leading : number_in (bytes "01") ≡ Other
  pub minus : number_in (bytes "-0") ≡ Other
  pub plus : number_in (bytes "+1") ≡ Other
  pub signs : number_in (bytes "--1") ≡ Other
  pub sign : number_in (bytes "-") ≡ Other

numbers : Numbers
unfolding number_in natural_in is_natural every value_from
numbers = record {
  zero = refl;
  most = refl;
  more = refl;
  least = refl;
  less = refl;
  none = refl;
  leading = refl;
  minus = refl;
  plus = refl;
  signs = refl;
  sign = refl;
}
