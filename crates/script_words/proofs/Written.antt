-- A word is a number exactly if it is that number in decimal, its shortest form with a minus sign before negatives. Digits
-- without a leading zero are the shortest form of their value, and no other text is. Assumes nothing.
use mathlib.Core.Path.{◌≡◌, refl, sym, ◌∙◌, ap}
use mathlib.Core.Bool.{Bool, true, false, cond, not, false≢true}
use mathlib.Core.List.{List, [], ◌∷◌}
use Prim.Native.Nat.{ℕ, zero, suc, ◌+◌, ◌-◌, ◌*◌, ◌^◌, ◌≤◌, ◌<◌}
use native.Mathlib.Omega.{arith}
use borrow.Author.Tests.{eqb-true, eqb-false, ne_eqb, not-true}
use lib.Dec.{ltb, eqb}
use lib.ListN.{length, get_or}
use lib.IntN.{ℤ, pos, negsuc, neg_ℤ}
use Rattle.ints.proofs.Tests.{test, and_left, and_right}
use Rattle.plan.specs.Limits.{within}
use Rattle.plan.specs.Checks.{every}
use Rattle.text.specs.Decimal.{decimal, signed}
use Rattle.text.specs.Parser.{is_digit}
use Rattle.text.proofs.Numbers.{digit_low}
use Rattle.text.proofs.TestLaws.{every_one}
use Rattle.text.proofs.DecimalLaws.{value_after, Shortest, decimal-shortest, shortest-only}
use Rattle.script_words.specs.declared.types.Number.{Number}
use Rattle.script_words.specs.declared.types.Number.TheVariants.{Whole, Negative, Other}
use Rattle.script_words.specs.Numbers.{value_from, is_natural, whole_if, natural_in, negated, number_in}
use Rattle.script_words.proofs.NumberLaws.{natural-all, value_grows, whole-small, natural-some, natural-none, number-plain, negated-is}

values : (v : ℕ) (w : List ℕ) → value_from v w ≡ value_after v w
unfolding value_from
values v [] = refl
values v (b ∷ w) = values (v * 10 + (b - 48)) w

-- ---- digits without a leading zero, and shortest forms
natural-shortest : (w : List ℕ) → is_natural w ≡ true → Shortest (value_from 0 w) w
unfolding is_natural value_from
natural-shortest w e = record {
  digits_only = natural-all w e;
  value = sym (values 0 w);
  leading = first w e;
  zero_itself = only w e;
}
  where
    first : (w : List ℕ) → is_natural w ≡ true → 0 < value_from 0 w → 48 < get_or w 0 0
    first [] e h = absurd (false≢true e)
    first (b ∷ []) e h = omega arith
    first (b ∷ c ∷ w) e h =
        let n = not-true (eqb b 48) (and_left (not (eqb b 48)) (every is_digit (b ∷ c ∷ w)) e) in
        let d = digit_low b (every_one is_digit b (c ∷ w) (and_right (not (eqb b 48)) (every is_digit (b ∷ c ∷ w)) e)).0 in
        let z = eqb-false b 48 n in
        omega arith

    only : (w : List ℕ) → is_natural w ≡ true → value_from 0 w ≡ 0 → w ≡ 48 ∷ []
    only [] e z = absurd (false≢true e)
    only (b ∷ []) e z = let d = digit_low b e in let q : b ≡ 48 = omega arith in rw q
    only (b ∷ c ∷ w) e z =
        let n = not-true (eqb b 48) (and_left (not (eqb b 48)) (every is_digit (b ∷ c ∷ w)) e) in
        let d = digit_low b (every_one is_digit b (c ∷ w) (and_right (not (eqb b 48)) (every is_digit (b ∷ c ∷ w)) e)).0 in
        let g = value_grows ((0 * 10 + (b - 48)) * 10 + (c - 48)) w in
        let m = eqb-false b 48 n in
        absurd (omega arith)

shortest-natural : (n : ℕ) (w : List ℕ) → Shortest n w → is_natural w ≡ true
unfolding is_natural
shortest-natural n [] h = let e = h.zero_itself (sym h.value) in let z : ◌≡◌ {A = ℕ} 0 1 = cc in absurd (omega arith)
shortest-natural n (b ∷ []) h = (every_one is_digit b [] h.digits_only).0
shortest-natural zero (b ∷ c ∷ w) h = let e = h.zero_itself refl in let z : ◌≡◌ {A = ℕ} 0 1 = cc in absurd (omega arith)
shortest-natural (suc n) (b ∷ c ∷ w) h = rw (ne_eqb b 48 (λ e. omega (arith, h.leading (omega arith)))) h.digits_only

-- ---- a number without a sign
decimal-natural : (n : ℕ) → is_natural (decimal n) ≡ true
decimal-natural n = shortest-natural n (decimal n) (decimal-shortest n)

decimal-in : (n : ℕ) → n < 2 ^ 64 → natural_in (decimal n) ≡ Whole n
decimal-in n h =
    natural-some (decimal n) (decimal-natural n) ∙ ap whole_if (values 0 (decimal n) ∙ (decimal-shortest n).value) ∙ whole-small n h

if-whole : (n v : ℕ) (t : Bool) → cond t (Whole v) Other ≡ Whole n → v ≡ n
if-whole n v true e = cc
if-whole n v false e = let z : ◌≡◌ {A = ℕ} 0 1 = cc in absurd (omega arith)

natural-only : (n : ℕ) (w : List ℕ) → natural_in w ≡ Whole n → w ≡ decimal n
natural-only n w e = test (is_natural w)
    (λ t.
    let q = if-whole n (value_from 0 w) (ltb (value_from 0 w) (2 ^ 64)) (sym (natural-some w t) ∙ e) in
    shortest-only (value_from 0 w) w (natural-shortest w t) ∙ ap decimal q)
    (λ f. let g = natural-none w f in let z : ◌≡◌ {A = ℕ} 0 1 = cc in absurd (omega arith))

-- digits are no minus sign
natural-first : (w : List ℕ) → is_natural w ≡ true → 48 ≤ get_or w 0 0
unfolding is_natural
natural-first [] e = absurd (false≢true e)
natural-first (b ∷ []) e = digit_low b e
natural-first (b ∷ c ∷ w) e = digit_low b (every_one is_digit b (c ∷ w) (and_right (not (eqb b 48)) (every is_digit (b ∷ c ∷ w)) e)).0

natural-some-byte : (w : List ℕ) → is_natural w ≡ true → length w ≡ 0 → ⊥
unfolding is_natural
natural-some-byte [] e h = absurd (false≢true e)
natural-some-byte (b ∷ w) e h = omega arith

pub whole-written : (n : ℕ) → n < 2 ^ 64 → number_in (decimal n) ≡ Whole n
whole-written n h =
    let e = decimal-natural n in
    number-plain (decimal n) (natural-some-byte (decimal n) e) (λ q. omega (arith, natural-first (decimal n) e, q)) ∙ decimal-in n h

not-whole : (m : Number) (n : ℕ) → negated m ≡ Whole n → ⊥
not-whole (Whole k) n e = go (within 1 (2 ^ 63) k) e
  where
    go : (t : Bool) → cond t (Negative (neg_ℤ (pos k))) Other ≡ Whole n → ⊥
    go true e = let z : ◌≡◌ {A = ℕ} 0 1 = cc in omega arith
    go false e = let z : ◌≡◌ {A = ℕ} 0 1 = cc in omega arith
not-whole (Negative z) n e = let z : ◌≡◌ {A = ℕ} 0 1 = cc in omega arith
not-whole Other n e = let z : ◌≡◌ {A = ℕ} 0 1 = cc in omega arith

pub whole-only : (n : ℕ) (w : List ℕ) → number_in w ≡ Whole n → w ≡ decimal n
unfolding number_in
whole-only n [] e = let z : ◌≡◌ {A = ℕ} 0 1 = cc in absurd (omega arith)
whole-only n (b ∷ s) e = go (eqb b 45) e
  where
    go : (t : Bool) → cond t (negated (natural_in s)) (natural_in (b ∷ s)) ≡ Whole n → b ∷ s ≡ decimal n
    go true f = absurd (not-whole (natural_in s) n f)
    go false f = natural-only n (b ∷ s) f

-- ---- a number below 0
pub negative-written : (n : ℕ) → n < 2 ^ 63 → number_in (signed (negsuc n)) ≡ Negative (negsuc n)
unfolding number_in signed
negative-written n h = negated-is (natural_in (decimal (suc n))) (suc n) (decimal-in (suc n) (omega arith)) (omega arith) (omega arith)

record Below (m : Number) (z : ℤ) : Type 0 where
  value : ℕ
  found : m ≡ Whole (suc value)
  is : z ≡ negsuc value

below : (m : Number) (z : ℤ) → negated m ≡ Negative z → Below m z
below (Whole zero) z e = let q : ◌≡◌ {A = ℕ} 0 1 = cc in absurd (omega arith)
below (Whole (suc k)) z e = go (within 1 (2 ^ 63) (suc k)) e
  where
    go : (t : Bool) → cond t (Negative (negsuc k)) Other ≡ Negative z → Below (Whole (suc k)) z
    go true f = record { value = k; found = refl; is = cc }
    go false f = let q : ◌≡◌ {A = ℕ} 0 1 = cc in absurd (omega arith)
below (Negative y) z e = let q : ◌≡◌ {A = ℕ} 0 1 = cc in absurd (omega arith)
below Other z e = let q : ◌≡◌ {A = ℕ} 0 1 = cc in absurd (omega arith)

not_negative : (w : List ℕ) (z : ℤ) → natural_in w ≡ Negative z → ⊥
unfolding natural_in
not_negative w z e = go (is_natural w) (ltb (value_from 0 w) (2 ^ 64)) e
  where
    go : (t u : Bool) → cond t (cond u (Whole (value_from 0 w)) Other) Other ≡ Negative z → ⊥
    go true true f = let q : ◌≡◌ {A = ℕ} 0 1 = cc in omega arith
    go true false f = let q : ◌≡◌ {A = ℕ} 0 1 = cc in omega arith
    go false u f = let q : ◌≡◌ {A = ℕ} 0 1 = cc in omega arith

pub negative-only : (z : ℤ) (w : List ℕ) → number_in w ≡ Negative z → w ≡ signed z
unfolding number_in signed
negative-only z [] e = let q : ◌≡◌ {A = ℕ} 0 1 = cc in absurd (omega arith)
negative-only z (b ∷ s) e = go (eqb b 45) refl e
  where
    go : (t : Bool) → eqb b 45 ≡ t → cond t (negated (natural_in s)) (natural_in (b ∷ s)) ≡ Negative z → b ∷ s ≡ signed z
    go true q f =
        let h = below (natural_in s) z f in
        ap (λ (c : ℕ). c ∷ s) (eqb-true b 45 q) ∙ ap (λ (t : List ℕ). 45 ∷ t) (natural-only (suc h.value) s h.found) ∙ ap signed (sym h.is)
    go false q f = absurd (not_negative (b ∷ s) z f)
