-- A run in run coordinates, by columns: for each box its position, how many neighbours it has, and those, one box's after the
-- other's.
use Rattle.std.specs.Prelude.{◌≡◌, Bool, true, ◌&&◌, List, [], ◌∷◌, ℕ, ◌≤◌, ◌<◌, ◌^◌, length, take, drop, get_or, ℤ, pos}
use Rattle.ints.specs.Ints.{size}
use Rattle.run.specs.Run.{nondecreasing}
use Rattle.ints.specs.Lists.{sum}

-- Each box's neighbours "in nondecreasing order".
unfoldable pub parts_in_order : List ℕ → List ℤ → Bool
parts_in_order [] ns = true
parts_in_order (c ∷ cs) ns = nondecreasing (take c ns) && parts_in_order cs (drop c ns)

-- The columns hold as many boxes each, and the counts' neighbours, in order.
pub record Columns (zs : List ℤ) (cs : List ℕ) (ns : List ℤ) : Type 0 where
  pub boxes : length zs ≡ length cs
  pub neighbours : length ns ≡ sum cs
  pub order : parts_in_order cs ns ≡ true

-- Positions so small that sums and differences of a few of them stay far within an i64.
abbrev pub max_size : ℕ
max_size = 2 ^ 50

abbrev pub Sized : ℕ → List ℤ → Type 0
Sized b xs = (i : ℕ) → i < length xs → size (get_or xs i (pos 0)) ≤ b

abbrev pub Small : List ℤ → Type 0
Small xs = Sized max_size xs
