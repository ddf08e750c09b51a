-- A value or none: which of two it is, and that none is no value. Assumes nothing.
use mathlib.Core.Path.{◌≡◌}
use mathlib.Core.Logic.{◌⊎◌, inl, inr}
use mathlib.Core.Option.{Option, none, some}
use Prim.Native.Nat.{ℕ}
use native.Mathlib.Omega.{arith}
use Rattle.passes.specs.Ready.{or_else}

pub or_cases : (a b : Option ℕ) (u : ℕ) → or_else a b ≡ some u → (a ≡ some u) ⊎ (b ≡ some u)
or_cases none b u e = inr e
or_cases (some w) b u e = inl e

pub never : {G : Type 0} (u : ℕ) → ◌≡◌ {A = Option ℕ} none (some u) → G
never u e = let z : ◌≡◌ {A = ℕ} 0 1 = cc in absurd (omega arith)
