-- 500 times a number, by its two parts. Assumes nothing.
use mathlib.Core.Path.{◌≡◌, refl}
use Prim.Native.Nat.{suc, ◌*◌, ◌≤◌, ◌^◌}
use native.Mathlib.Omega.{arith}
use lib.IntN.{ℤ, pos, negsuc, ◌*ℤ◌}
use mir.Syntax.{w64}
use mir.Val.{SFits}
use Rattle.ints.specs.Ints.{P, N, size}
use Rattle.ints.proofs.Laws.{neg-P, neg-N, fit-make}

pub times-P : (z : ℤ) → P (pos 500 *ℤ z) ≡ 500 * P z
times-P (pos n) = refl
times-P (negsuc n) = neg-P (pos (500 * suc n))

pub times-N : (z : ℤ) → N (pos 500 *ℤ z) ≡ 500 * N z
times-N (pos n) = refl
times-N (negsuc n) = neg-N (pos (500 * suc n))

-- 500 times a number of half steps fits
pub small : (z : ℤ) → size z ≤ 2 ^ 42 → size (pos 500 *ℤ z) ≤ 500 * 2 ^ 42
small z h = omega (arith, times-P z, times-N z)

pub fits : (z : ℤ) → size z ≤ 2 ^ 42 → SFits w64 (pos 500 *ℤ z)
fits z h = fit-make (pos 500 *ℤ z) (omega (arith, small z h))
