-- The value of digits, as a loop passes them, and what a test of a number leaves. Assumes nothing.
use mathlib.Core.Path.{◌≡◌, refl}
use mathlib.Core.Bool.{Bool, true, false, cond, not, false≢true}
use mathlib.Core.List.{List, [], ◌∷◌}
use Prim.Native.Nat.{ℕ, suc, ◌+◌, ◌-◌, ◌*◌, ◌^◌, ◌≤◌, ◌<◌}
use native.Mathlib.Omega.{arith}
use native.Mathlib.Numerals.{add-one}
use borrow.Author.Tests.{lt-ltb, le-ltb, le-leb, eq-eqb, ne_eqb}
use lib.Dec.{eqb}
use lib.IntN.{pos, neg_ℤ}
use lib.ListN.{length, get_or, drop, drop_of_length-le}
use lib.Seq.{drop-cons}
use Rattle.ints.proofs.Tests.{and_right}
use Rattle.plan.specs.Checks.{every}
use Rattle.text.specs.Parser.{is_digit}
use Rattle.script_words.specs.declared.types.Number.{Number}
use Rattle.script_words.specs.declared.types.Number.TheVariants.{Whole, Negative, Other}
use Rattle.script_words.specs.Numbers.{value_from, whole_if, is_natural, natural_in, negated, number_in}

-- ---- every byte is a digit
module _ (w : List ℕ) (i : ℕ) where
  pub digits-on : i < length w → is_digit (get_or w i 0) ≡ true → every is_digit (drop i w) ≡ every is_digit (drop (i + 1) w)
  unfolding every
  digits-on h e = rw (add-one, drop-cons w i 0 h, e)

  cond-first : (t m : Bool) → cond t m false ≡ true → t ≡ true
  cond-first true m e = refl
  cond-first false m e = e

  pub digit_at : i < length w → every is_digit (drop i w) ≡ true → is_digit (get_or w i 0) ≡ true
  unfolding every
  digit_at h e = cond-first (is_digit (get_or w i 0)) (every is_digit (drop (suc i) w)) (rw (drop-cons w i 0 h) at e)

-- ---- which words are naturals
pub natural-empty : (w : List ℕ) → length w ≡ 0 → is_natural w ≡ false
unfolding is_natural
natural-empty [] e = refl
natural-empty (b ∷ w) e = absurd (omega arith)

pub natural-zero : (w : List ℕ) → 1 < length w → get_or w 0 0 ≡ 48 → is_natural w ≡ false
unfolding is_natural
natural-zero [] h e = refl
natural-zero (b ∷ []) h e = absurd (omega arith)
natural-zero (b ∷ c ∷ w) h e = rw (eq-eqb b 48 e)

pub natural-digits : (w : List ℕ) → 1 < length w → (get_or w 0 0 ≡ 48 → ⊥) → is_natural w ≡ every is_digit w
unfolding is_natural
natural-digits [] h n = absurd (omega arith)
natural-digits (b ∷ []) h n = absurd (omega arith)
natural-digits (b ∷ c ∷ w) h n = rw (ne_eqb b 48 n)

pub natural-one : (w : List ℕ) → length w ≡ 1 → is_natural w ≡ is_digit (get_or w 0 0)
unfolding is_natural
natural-one [] e = absurd (omega arith)
natural-one (b ∷ []) e = refl
natural-one (b ∷ c ∷ w) e = absurd (omega arith)

one-digit : (t : Bool) → t ≡ true → cond t true false ≡ true
one-digit true e = refl
one-digit false e = e

pub natural-all : (w : List ℕ) → is_natural w ≡ true → every is_digit w ≡ true
unfolding is_natural every
natural-all [] e = absurd (false≢true e)
natural-all (b ∷ []) e = one-digit (is_digit b) e
natural-all (b ∷ c ∷ w) e = and_right (not (eqb b 48)) (every is_digit (b ∷ c ∷ w)) e

-- ---- values
pub value_grows : (v : ℕ) (w : List ℕ) → v ≤ value_from v w
unfolding value_from
value_grows v [] = omega arith
value_grows v (b ∷ w) = let h = value_grows (v * 10 + (b - 48)) w in omega arith

pub value_on : (v : ℕ) (w : List ℕ) (i : ℕ) → i < length w → value_from v (drop i w) ≡ value_from (v * 10 + (get_or w i 0 - 48)) (drop (i + 1) w)
unfolding value_from
value_on v w i h = rw (add-one, drop-cons w i 0 h)

pub value-end : (v : ℕ) (w : List ℕ) (i : ℕ) → length w ≤ i → value_from v (drop i w) ≡ v
unfolding value_from
value-end v w i h = rw (drop_of_length-le w h)

-- a number of 64 bits, or none
pub whole-small : (n : ℕ) → n < 2 ^ 64 → whole_if n ≡ Whole n
whole-small n h = rw (lt-ltb n (2 ^ 64) h)

pub whole-large : (n : ℕ) → 2 ^ 64 ≤ n → whole_if n ≡ Other
whole-large n h = rw (le-ltb n (2 ^ 64) h)

-- ---- what a number says behind a minus sign
pub negated-is : (n : Number) (v : ℕ) → n ≡ Whole v → 1 ≤ v → v ≤ 2 ^ 63 → negated n ≡ Negative (neg_ℤ (pos v))
negated-is n v e h k = rw (e, le-leb 1 v h, le-leb v (2 ^ 63) k)

-- ---- a word without a sign, and any word
module _ (w : List ℕ) where
  pub natural-none : is_natural w ≡ false → natural_in w ≡ Other
  unfolding natural_in
  natural-none e = rw e

  pub natural-some : is_natural w ≡ true → natural_in w ≡ whole_if (value_from 0 w)
  unfolding natural_in
  natural-some e = rw e

pub number-empty : (w : List ℕ) → length w ≡ 0 → number_in w ≡ Other
unfolding number_in
number-empty [] e = refl
number-empty (b ∷ w) e = absurd (omega arith)

pub number-minus : (w : List ℕ) → (length w ≡ 0 → ⊥) → get_or w 0 0 ≡ 45 → number_in w ≡ negated (natural_in (drop 1 w))
unfolding number_in
number-minus [] n e = absurd (n refl)
number-minus (b ∷ w) n e = rw (eq-eqb b 45 e)

pub number-plain : (w : List ℕ) → (length w ≡ 0 → ⊥) → (get_or w 0 0 ≡ 45 → ⊥) → number_in w ≡ natural_in w
unfolding number_in
number-plain [] n e = absurd (n refl)
number-plain (b ∷ w) n e = rw (ne_eqb b 45 e)
