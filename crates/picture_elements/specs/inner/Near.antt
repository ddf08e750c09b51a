-- Points and pens that a drawing has.
use Rattle.std.specs.Prelude.{ℕ, ◌≤◌, ◌<◌, ℤ}
use Rattle.ints.specs.Ints.{size}
use Rattle.ints.specs.Reach.{reach}

-- x in half steps, y in steps.
abbrev pub Near : ℤ → ℕ → Type 0
Near x y = (size x ≤ reach) × (y ≤ 630000)

-- A measure, and the rating of a line.
abbrev pub Pen : ℕ → ℕ → Type 0
Pen u w = (u ≤ 10000) × (w ≤ 100)

-- A measure, the number of a vertex, and where it stands.
pub record NearVertex (u n : ℕ) (x : ℤ) (y : ℕ) : Type 0 where
  pub measure : u ≤ 10000
  pub number : n < 1024
  pub point : Near x y

-- And a box's half-width.
pub record NearBox (u n : ℕ) (x : ℤ) (y w : ℕ) : Type 0 where
  pub vertex : NearVertex u n x y
  pub some : 1 ≤ u
  pub wide : 1 ≤ w
  pub narrow : w ≤ 200
