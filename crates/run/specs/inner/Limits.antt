-- Limits of a run in run coordinates, the same for every box.
use Rattle.std.specs.Prelude.{ℤ}
use Rattle.ints.specs.Ints.{◌⊑◌, min_z, max_z}
use Rattle.run.specs.Run.{Bound, free, at}

abbrev pub Above : Bound → ℤ → Type 0
Above free z = Unit {0}
Above (at l) z = l ⊑ z

abbrev pub Below : Bound → ℤ → Type 0
Below free z = Unit {0}
Below (at l) z = z ⊑ l

pub record Within (L H : Bound) (z : ℤ) : Type 0 where
  pub above : Above L z
  pub below : Below H z

-- some place lies within
abbrev pub HasPlace : Bound → Bound → Type 0
HasPlace free H = Unit {0}
HasPlace (at l) H = Below H l

abbrev pub clamp_low : Bound → ℤ → ℤ
clamp_low free z = z
clamp_low (at l) z = max_z z l

abbrev pub clamp_high : Bound → ℤ → ℤ
clamp_high free z = z
clamp_high (at h) z = min_z z h

abbrev pub clamp : Bound → Bound → ℤ → ℤ
clamp L H z = clamp_high H (clamp_low L z)
