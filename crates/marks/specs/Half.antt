-- Whole numbers as f64: half of one, and one itself.
use Rattle.std.specs.Prelude.{ℕ, ◌^◌, ℤ, pos, Float}
use Rattle.std.specs.Float.{binary64}
use Rattle.std.specs.Float.Ieee.{mul, of_int, of_bits}

-- The constant 0.5.
unfoldable pub point5 : Float
point5 = of_bits binary64 4602678819172646912

-- "x is exactly half the whole number of half steps"
unfoldable pub half_of : ℤ → Float
half_of x = mul binary64 (of_int binary64 x) point5

unfoldable pub whole_of : ℕ → Float
whole_of n = of_int binary64 (pos n)

-- Every whole number up to this is an f64.
abbrev pub max_whole : ℕ
max_whole = 2 ^ 53
