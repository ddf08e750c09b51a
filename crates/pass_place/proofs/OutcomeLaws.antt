-- Laws of what a placing writes, as the loops that write it meet them. Assumes nothing.
use Prim.Native.Nat.{ℕ, zero, suc, ◌+◌, ◌<◌, ◌≤◌}
use mathlib.Core.Path.{◌≡◌, refl}
use mathlib.Core.List.{List}
use native.Mathlib.Omega.{arith}
use native.Mathlib.Numerals.{add-one}
use lib.ListN.{length, get_or, drop, set}
use lib.Seq.{drop-cons}
use lib.IntN.{ℤ, pos, ◌-ℤ◌}
use Rattle.ints.specs.Ints.{P, ◌⊑◌, gap}
use Rattle.ints.proofs.Laws.{dif, gap-l, apart}
use Rattle.plan.specs.Plan.{numbers}
use Rattle.passes.specs.State.{position_of, put, take_on}

-- ---- positions
pub put-none : (v n : ℕ) (ys xs : List ℤ) → n ≡ 0 → put (numbers v n) ys xs ≡ xs
unfolding put numbers
put-none v n ys xs h = rw h

pub put_on : (from n m i : ℕ) (ys xs : List ℤ) → i < length ys → n ≡ suc m
    → put (numbers (from + i) n) (drop i ys) xs ≡ put (numbers (from + (i + 1)) m) (drop (i + 1) ys) (set xs (from + i) (get_or ys i (pos 0)))
unfolding put numbers
put_on from n m i ys xs h e = let z : from + (i + 1) ≡ from + i + 1 = omega arith in rw (e, z, drop-cons ys i (pos 0) h, add-one i)

-- ---- distances
pub gap-right : (a b : ℤ) → a ⊑ b → gap a b ≡ P (b -ℤ a)
gap-right a b h = omega (arith, gap-l a b h, dif b a, apart (b -ℤ a))

module _ (xs : List ℤ) where
  pub take_none : (v n : ℕ) (ds : List ℕ) → n ≤ 1 → take_on xs (numbers v n) ds ≡ ds
  unfolding take_on numbers
  take_none v zero ds h = refl
  take_none v (suc zero) ds h = refl
  take_none v (suc (suc n)) ds h = absurd (omega arith)

  pub take_on_lem : (v n m : ℕ) (ds : List ℕ) → n ≡ suc (suc m) → take_on xs (numbers v n) ds ≡ take_on xs (numbers (v + 1) (suc m)) (set ds v (P (position_of xs (v + 1) -ℤ position_of xs v)))
  unfolding take_on numbers
  take_on_lem v n m ds h = rw h
