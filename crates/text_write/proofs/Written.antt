-- Laws of writing into a buffer: one text after another, and the digits of a number.
use mathlib.Core.Path.{◌≡◌, refl, sym, ◌∙◌, ap}
use mathlib.Core.Bool.{true, false, cond}
use mathlib.Core.List.{List, [], ◌∷◌, ◌++◌, append_assoc}
use Prim.Native.Nat.{ℕ, ◌+◌, ◌/◌, ◌%◌, ◌≤◌, ◌<◌}
use native.Mathlib.Omega.{arith}
use lib.ListN.{length, set, length-append}
use lib.Seq.{length-sets}
use lib.IntN.{ℤ, pos, negsuc, ◌-ℤ◌, nat_abs}
use lib.Signed.{lt_z}
use borrow.Author.Tests.{ltb-true, le-ltb}
use Rattle.ints.proofs.Laws.{cases, dif, abs, apart}
use Rattle.text.specs.Decimal.{decimal, signed}
use Rattle.text.proofs.Words.{never}
use Rattle.text_scan.proofs.Stores.{sets-append, sets_over}
use Rattle.text.proofs.DecimalLaws.{decimal-one, decimal-last}
use Rattle.text_write.specs.inner.Written.{Room, Wrote, Fronts}

pub wrote_none : (o : List ℕ) (at : ℕ) → Wrote [] o at at o
wrote_none o at = record { next = omega arith; bytes = refl' }
  where
    refl' : o ≡ o
    refl' = cc

pub wrote-long : {w o out : List ℕ} {at to : ℕ} → Wrote w o at to out → length out ≡ length o
wrote-long {w} {o} {out} {at} {to} h = ap length h.bytes ∙ length-sets o at w

-- one text, and another after it
pub and_then : {a b o p q : List ℕ} {at m to : ℕ} → Wrote a o at m p → Wrote b p m to q → Wrote (a ++ b) o at to q
and_then {a} {b} {o} {p} {q} {at} {m} {to} h k = record {
  next = omega (arith, length-append a b, h.next, k.next);
  bytes = k.bytes ∙ rw (h.bytes, h.next) (sym (sets-append o at a b));
}

pub and_both : {a o p q : List ℕ} {at m to : ℕ} (b c : List ℕ) → Wrote a o at m p → Wrote (b ++ c) p m to q → Wrote (a ++ b ++ c) o at to q
and_both {a} b c h k = rw (append_assoc a b c) (and_then h k)

-- where there is room for both, there is room for the second after the first
pub room-first : (a b o : List ℕ) (at : ℕ) → Room (a ++ b) o at → Room a o at
room-first a b o at r = omega (arith, length-append a b)

pub room-then : {a o p : List ℕ} {at m : ℕ} (b : List ℕ) → Wrote a o at m p → Room (a ++ b) o at → Room b p m
room-then {a} {o} {p} {at} {m} b h r = omega (arith, length-append a b, wrote-long h, h.next)

pub room_after : {a o p : List ℕ} {at m : ℕ} (b w : List ℕ) → Wrote a o at m p → Room w o at → length a + length b ≤ length w → Room b p m
room_after {a} {o} {p} {at} {m} b w h r l = omega (arith, wrote-long h, h.next)

-- at the front of the buffer
pub front_of : {w o out : List ℕ} {n : ℕ} → Wrote w o 0 n out → length w ≤ length o → Fronts w o n out
front_of {w} {o} {out} {n} h l = record { count = omega (arith, h.next); bytes = h.bytes ∙ sets_over o w l }

pub one_byte : (b : ℕ) (o : List ℕ) (at : ℕ) → Wrote (b ∷ []) o at (at + 1) (set o at b)
one_byte b o at = record { next = omega arith; bytes = cc }

-- ---- decimal numbers
pub decimal-some : (n : ℕ) → 1 ≤ length (decimal n)
decimal-some n = cases 10 n
    (λ l. rw (decimal-last n l) (omega (arith, length-append (decimal (n / 10)) ((48 + n % 10) ∷ []))))
    (λ l. rw (decimal-one n l) (omega arith))

pub digit-alone : (n : ℕ) (o : List ℕ) (at : ℕ) → n < 10 → Wrote (decimal n) o at (at + 1) (set o at (48 + n))
digit-alone n o at l = rw (decimal-one n l) (one_byte (48 + n) o at)

pub digit-last : (n : ℕ) {o p : List ℕ} {at m : ℕ} → 10 ≤ n → Wrote (decimal (n / 10)) o at m p → Wrote (decimal n) o at (m + 1) (set p m (48 + n % 10))
digit-last n {o} {p} {at} {m} l h = rw (decimal-last n l) (and_then h (one_byte (48 + n % 10) p m))

pub decimal-longer : (n : ℕ) → 10 ≤ n → length (decimal n) ≡ length (decimal (n / 10)) + 1
decimal-longer n l = rw (decimal-last n l) (omega (arith, length-append (decimal (n / 10)) ((48 + n % 10) ∷ [])))

-- ---- signed numbers
pub signed-neg : (z : ℤ) → lt_z z (pos 0) ≡ true → signed z ≡ 45 ∷ decimal (nat_abs z)
unfolding signed
signed-neg (pos n) h = absurd (omega (arith, ltb-true n 0 h))
signed-neg (negsuc n) h = cc

pub signed-pos : (z : ℤ) → lt_z z (pos 0) ≡ false → signed z ≡ decimal (nat_abs z)
unfolding signed
signed-pos (pos n) h = cc
signed-pos (negsuc n) h = never (sym h)

-- a minus sign before what is below 0
pub signed-marked : (z : ℤ) → cond (lt_z z (pos 0)) (45 ∷ decimal (nat_abs z)) (decimal (nat_abs z)) ≡ signed z
unfolding signed
signed-marked (pos n) = rw (le-ltb n 0 (omega arith))
signed-marked (negsuc n) = refl

pub same_size : (z : ℤ) → nat_abs (pos 0 -ℤ z) ≡ nat_abs z
same_size z = omega (arith, dif (pos 0) z, abs z, abs (pos 0 -ℤ z), apart z, apart (pos 0 -ℤ z))
