-- A position within reach is what its 64 bits say. Assumes nothing.
use Prim.Native.Nat.{◌≤◌}
use mathlib.Core.Path.{◌≡◌}
use native.Mathlib.Omega.{arith}
use mir.Syntax.{w64}
use mir.Val.{to_z, of_z}
use lib.IntN.{ℤ}
use Rattle.ints.specs.Ints.{size}
use Rattle.ints.proofs.Laws.{back, fit-make}

pub bits_back : (z : ℤ) → size z ≤ 1099511627776 → to_z w64 (of_z w64 z) ≡ z
bits_back z h = back (fit-make z (omega arith))
