-- Numbers at a position of a text: the cases of `number` and `digits_after`, as the program meets them.
use mathlib.Core.Path.{◌≡◌, refl, sym, ◌∙◌, ap}
use mathlib.Core.Bool.{true, false}
use mathlib.Core.List.{List, [], ◌∷◌}
use Prim.Native.Nat.{ℕ, zero, suc, ◌+◌, ◌-◌, ◌*◌, ◌≤◌, ◌<◌}
use native.Mathlib.Omega.{arith}
use native.Mathlib.Decide.{dec_lt}
use native.Mathlib.Numerals.{add-one}
use borrow.Author.Tests.{leb-true, ne_eqb}
use lib.Dec.{leb}
use lib.ListN.{length, get_or, drop, drop_of_length-le, get_or-eq_default}
use lib.Seq.{drop-cons}
use Rattle.ints.proofs.Tests.{and_left, and_right}
use Rattle.text.specs.Parser.{got, nothing, is_digit, digits_after, number}

pub digit_low : (b : ℕ) → is_digit b ≡ true → 48 ≤ b
digit_low b h = leb-true 48 b (and_left (leb 48 b) (leb b 57) h)

pub digit-high : (b : ℕ) → is_digit b ≡ true → b ≤ 57
digit-high b h = leb-true b 57 (and_right (leb 48 b) (leb b 57) h)

-- past the end stands no digit
pub digit-within : (s : List ℕ) (at b : ℕ) → b ≡ get_or s at 0 → is_digit b ≡ true → at < length s
digit-within s at b e d = elim (dec_lt at (length s)) [ yes h ↦ h | no h ↦ absurd (out h) ] where
  out : (at < length s → ⊥) → ⊥
  out h = let z : get_or s at 0 ≡ 0 = get_or-eq_default s 0 (omega arith) in omega (arith, digit_low b d)

-- what the value is below while n digits are still allowed
abbrev pub cap : ℕ → ℕ
cap zero = 100000
cap (suc zero) = 10000
cap (suc (suc zero)) = 1000
cap (suc (suc (suc zero))) = 100
cap (suc (suc (suc (suc n)))) = 10

pub cap-all : (n v : ℕ) → v < cap n → v < 100000
cap-all zero v h = h
cap-all (suc zero) v h = omega arith
cap-all (suc (suc zero)) v h = omega arith
cap-all (suc (suc (suc zero))) v h = omega arith
cap-all (suc (suc (suc (suc n)))) v h = omega arith

-- one digit more
pub cap-go : (n v d : ℕ) → 0 < n → n ≤ 4 → v < cap n → d ≤ 9 → v * 10 + d < cap (n - 1)
cap-go zero v d h l k m = absurd (omega arith)
cap-go (suc zero) v d h l k m = omega arith
cap-go (suc (suc zero)) v d h l k m = omega arith
cap-go (suc (suc (suc zero))) v d h l k m = omega arith
cap-go (suc (suc (suc (suc zero)))) v d h l k m = omega arith
cap-go (suc (suc (suc (suc (suc n))))) v d h l k m = absurd (omega arith)

-- the text from a position on: at its end, or a byte and the rest
at_byte : {X : Type 0} (s : List ℕ) (at : ℕ) → (drop at s ≡ [] → X) → (drop at s ≡ get_or s at 0 ∷ drop (at + 1) s → X) → X
at_byte {X} s at f g = elim (dec_lt at (length s)) [ yes h ↦ g (drop-cons s at 0 h ∙ ap (λ (n : ℕ). get_or s at 0 ∷ drop n s) (sym (add-one at))) | no h ↦ f (drop_of_length-le s {i = at} (omega arith)) ]

-- The cases of `digits_after`.
pub digits-none : (s : List ℕ) (n v : ℕ) → n ≡ 0 → digits_after n v s ≡ got v s
unfolding digits_after
digits-none s n v h = rw h

stop-at : (n v b : ℕ) (s : List ℕ) → is_digit b ≡ false → digits_after n v (b ∷ s) ≡ got v (b ∷ s)
unfolding digits_after
stop-at zero v b s d = refl
stop-at (suc n) v b s d = rw d

end-at : (n v : ℕ) → digits_after n v [] ≡ got v []
unfolding digits_after
end-at zero v = refl
end-at (suc n) v = refl

pub digits-stop : (s : List ℕ) (n v at b : ℕ) → b ≡ get_or s at 0 → is_digit b ≡ false → digits_after n v (drop at s) ≡ got v (drop at s)
digits-stop s n v at b e d = at_byte s at (λ q. rw q (end-at n v)) (λ q. rw (q, ← e) (stop-at n v b (drop (at + 1) s) d))

go-at : (n v b : ℕ) (s : List ℕ) → 0 < n → is_digit b ≡ true → digits_after n v (b ∷ s) ≡ digits_after (n - 1) (v * 10 + (b - 48)) s
unfolding digits_after
go-at zero v b s h d = absurd (omega arith)
go-at (suc n) v b s h d = let k : suc n - 1 ≡ n = omega arith in rw (d, k)

pub digits-go : (s : List ℕ) (n v at b : ℕ) → 0 < n → b ≡ get_or s at 0 → is_digit b ≡ true → digits_after n v (drop at s) ≡ digits_after (n - 1) (v * 10 + (b - 48)) (drop (at + 1) s)
digits-go s n v at b h e d =
    let q : drop at s ≡ get_or s at 0 ∷ drop (at + 1) s = drop-cons s at 0 (digit-within s at b e d) ∙ ap (λ (n : ℕ). get_or s at 0 ∷ drop n s) (sym (add-one at)) in
    rw (q, ← e) (go-at n v b (drop (at + 1) s) h d)

-- The cases of `number`.
none-at : (b : ℕ) (s : List ℕ) → is_digit b ≡ false → number (b ∷ s) ≡ nothing
unfolding number
none-at b s d = rw d

none_end : number [] ≡ nothing
unfolding number
none_end = refl

pub number-none : (s : List ℕ) (at b : ℕ) → b ≡ get_or s at 0 → is_digit b ≡ false → number (drop at s) ≡ nothing
number-none s at b e d = at_byte s at (λ q. rw q none_end) (λ q. rw (q, ← e) (none-at b (drop (at + 1) s) d))

zero-at : (b : ℕ) (s : List ℕ) → b ≡ 48 → number (b ∷ s) ≡ got 0 s
unfolding number
zero-at b s z = rw z

more-at : (b : ℕ) (s : List ℕ) → is_digit b ≡ true → (b ≡ 48 → ⊥) → number (b ∷ s) ≡ digits_after 4 (b - 48) s
unfolding number
more-at b s d z = rw (d, ne_eqb b 48 z)

pub number-zero : (s : List ℕ) (at b : ℕ) → b ≡ get_or s at 0 → is_digit b ≡ true → b ≡ 48 → number (drop at s) ≡ got 0 (drop (at + 1) s)
number-zero s at b e d z =
    let q : drop at s ≡ get_or s at 0 ∷ drop (at + 1) s = drop-cons s at 0 (digit-within s at b e d) ∙ ap (λ (n : ℕ). get_or s at 0 ∷ drop n s) (sym (add-one at)) in
    rw (q, ← e) (zero-at b (drop (at + 1) s) z)

pub number_more : (s : List ℕ) (at b : ℕ) → b ≡ get_or s at 0 → is_digit b ≡ true → (b ≡ 48 → ⊥) → number (drop at s) ≡ digits_after 4 (b - 48) (drop (at + 1) s)
number_more s at b e d z =
    let q : drop at s ≡ get_or s at 0 ∷ drop (at + 1) s = drop-cons s at 0 (digit-within s at b e d) ∙ ap (λ (n : ℕ). get_or s at 0 ∷ drop n s) (sym (add-one at)) in
    rw (q, ← e) (more-at b (drop (at + 1) s) d z)
