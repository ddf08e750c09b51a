-- The digits that the program writes, by the case that it meets. Assumes nothing.
use mathlib.Core.Path.{◌≡◌, sym}
use mathlib.Core.Bool.{true, false}
use mathlib.Core.List.{[], ◌++◌}
use Prim.Native.Nat.{ℕ, ◌/◌, ◌%◌}
use borrow.Author.Tests.{eq-eqb, ne_eqb, ltb-true}
use native.Mathlib.Omega.{arith}
use lib.IntN.{ℤ, pos, negsuc, nat_abs}
use lib.Signed.{lt_z}
use Rattle.text.specs.Bytes.{bytes}
use Rattle.text.specs.Decimal.{decimal}
use Rattle.text.proofs.Words.{never}
use Rattle.picture_numbers.specs.Thousandths.{places, fraction, amount, thousandths}

module _ (f : ℕ) where
  pub one_place : f % 100 ≡ 0 → places f ≡ decimal (f / 100)
  unfolding places
  one_place h = rw (eq-eqb (f % 100) 0 h)

  pub two-places : (f % 100 ≡ 0 → ⊥) → f % 10 ≡ 0 → places f ≡ decimal (f / 100) ++ decimal (f / 10 % 10)
  unfolding places
  two-places h k = rw (ne_eqb (f % 100) 0 h, eq-eqb (f % 10) 0 k)

  pub three-places : (f % 100 ≡ 0 → ⊥) → (f % 10 ≡ 0 → ⊥) → places f ≡ (decimal (f / 100) ++ decimal (f / 10 % 10)) ++ decimal (f % 10)
  unfolding places
  three-places h k = rw (ne_eqb (f % 100) 0 h, ne_eqb (f % 10) 0 k)

  pub no_fraction : f ≡ 0 → fraction f ≡ []
  unfolding fraction
  no_fraction h = rw (eq-eqb f 0 h)

  pub some-fraction : (f ≡ 0 → ⊥) → fraction f ≡ bytes "." ++ places f
  unfolding fraction
  some-fraction h = rw (ne_eqb f 0 h)

pub below-0 : (n : ℤ) → lt_z n (pos 0) ≡ true → thousandths n ≡ bytes "-" ++ amount (nat_abs n)
unfolding thousandths
below-0 (pos n) h = absurd (omega (arith, ltb-true n 0 h))
below-0 (negsuc n) h = cc

pub from-0 : (n : ℤ) → lt_z n (pos 0) ≡ false → thousandths n ≡ amount (nat_abs n)
unfolding thousandths
from-0 (pos n) h = cc
from-0 (negsuc n) h = never (sym h)
