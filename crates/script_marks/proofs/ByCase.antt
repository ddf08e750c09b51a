-- The numbers of a mark in words, by the case that the program meets.
use Rattle.std.proofs.Common.{◌≡◌, ℕ, ◌+◌, ◌/◌, ◌%◌, true, false, ◌++◌, pos, eq-eqb, ne_eqb}
use lib.Ieee.{Float, fin, binary64, lt, mul}
use Rattle.text.specs.Bytes.{bytes}
use Rattle.text.specs.Decimal.{decimal}
use Rattle.script_marks.specs.Marks.{half_steps}
use Rattle.script_marks.specs.inner.Floats.{whole_in, across_in}

-- ---- half steps
pub half-even : (n : ℕ) → n % 2 ≡ 0 → half_steps n ≡ decimal (n / 2) ++ bytes ".0"
unfolding half_steps
half-even n h = rw (eq-eqb (n % 2) 0 h)

pub half-odd : (n : ℕ) → (n % 2 ≡ 0 → ⊥) → half_steps n ≡ decimal (n / 2) ++ bytes ".5"
unfolding half_steps
half-odd n h = rw (ne_eqb (n % 2) 0 h)

-- ---- a coordinate
pub across-minus : (x : Float) → lt x (fin false 0 (pos 0)) ≡ true → across_in x ≡ bytes "-" ++ half_steps (whole_in (mul binary64 x (fin true 1 (pos 1))))
unfolding across_in
across-minus x h = rw h

pub across-plus : (x : Float) → lt x (fin false 0 (pos 0)) ≡ false → across_in x ≡ half_steps (whole_in (mul binary64 x (fin false 1 (pos 1))))
unfolding across_in
across-plus x h = rw h
