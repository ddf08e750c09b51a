-- What the programs that measure a drawing ask of their lists.
use Rattle.std.specs.Prelude.{◌≡◌, true, List, ℕ, ◌+◌, ◌≤◌, ◌<◌, ◌^◌, length, get_or, ℤ}
use Rattle.ints.specs.Ints.{size}
use Rattle.ints.specs.Reach.{all_within}

-- Half-widths and final positions of some vertices.
pub record Edged (halves : List ℕ) (xs : List ℤ) : Type 0 where
  pub some : 0 < length xs
  pub widths : length halves ≡ length xs
  pub narrow : (v : ℕ) → get_or halves v 0 ≤ 200
  pub within : all_within xs ≡ true

-- Ends, a measure and a height that a picture can have.
pub record Ends (lo hi : ℤ) (u h : ℕ) : Type 0 where
  pub left : size lo ≤ 2 ^ 40 + 400
  pub right : size hi ≤ 2 ^ 40 + 400
  pub measure : u ≤ 10000
  pub high : h ≤ 640000
