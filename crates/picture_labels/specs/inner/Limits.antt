-- A box of a drawing: where it stands, in half steps and steps, its half-width, the measure and its number.
use Rattle.std.specs.Prelude.{ℕ, ◌^◌, ◌≤◌, ◌<◌, ℤ}
use Rattle.ints.specs.Ints.{size}

pub record InLimits (x : ℤ) (y hw u number : ℕ) : Type 0 where
  pub across : size x ≤ 2 ^ 40
  pub down : y ≤ 630000
  pub half : (1 ≤ hw) × (hw ≤ 200)
  pub measure : (1 ≤ u) × (u ≤ 10000)
  pub numbered : number < 1024
