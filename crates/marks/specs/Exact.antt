-- What it means that a mark's numbers are exact. `HasValue r s a c`: r is finite, has the sign s (true if negative), and is a / c
-- in size.
use Rattle.std.specs.Prelude.{false, not, List, ◌≡◌, ℕ, get_or, ℤ, nat_abs, Float}
use Rattle.std.specs.Int.Signed.{non_neg}
use Rattle.std.specs.Float.{nan}
use Rattle.std.specs.Float.Ieee.Exact.{HasValue}
use Rattle.marks.specs.declared.types.Point.{Point}
use Rattle.marks.specs.declared.types.Mark.{Mark}
use Rattle.marks.specs.declared.types.Mark.TheVariants.{Box, Bend, Line}
use Rattle.marks.specs.Marks.{WholeMark, box, bend, line, point_of}

-- "x is exactly half the whole number of half steps"
abbrev pub IsHalf : ℤ → Float → Type 0
IsHalf x r = HasValue r (not (non_neg x)) (nat_abs x) 2

abbrev pub IsWhole : ℕ → Float → Type 0
IsWhole n r = HasValue r false n 1

-- q is x half steps to the right of 0 and y steps below the top level.
pub record ExactPoint (x : ℤ) (y : ℕ) (q : Point) : Type 0 where
  pub across : IsHalf x q.x
  pub down : IsWhole y q.y

-- What is promised of a point that is made: which f64 numbers it has, and that they are exact.
pub record MadePoint (x : ℤ) (y : ℕ) (q : Point) : Type 0 where
  pub is : q ≡ point_of x y
  pub exact : ExactPoint x y q

-- m is the mark w, with the same numbers.
abbrev pub ExactMark : WholeMark → Mark → Type 0
ExactMark (box x y w) (Box q z) = ExactPoint x y q × IsWhole w z
ExactMark (box x y w) (Bend q) = ⊥
ExactMark (box x y w) (Line q r) = ⊥
ExactMark (bend x y) (Bend q) = ExactPoint x y q
ExactMark (bend x y) (Box q z) = ⊥
ExactMark (bend x y) (Line q r) = ⊥
ExactMark (line x y u v) (Line q r) = ExactPoint x y q × ExactPoint u v r
ExactMark (line x y u v) (Box q z) = ⊥
ExactMark (line x y u v) (Bend q) = ⊥

-- The i-th number of a list; `nan`, which has no value, stands for what is past the end.
abbrev pub nth : List Float → ℕ → Float
nth l i = get_or l i nan

-- A list begins with the five numbers of the mark w: its kind (0 a box, 1 a bend, 2 a line), its point, and a box's half-width or
-- a line's second point.
abbrev pub ExactFive : WholeMark → List Float → Type 0
ExactFive (box x y w) l = IsWhole 0 (nth l 0) × IsHalf x (nth l 1) × IsWhole y (nth l 2) × IsWhole w (nth l 3) × IsWhole 0 (nth l 4)
ExactFive (bend x y) l = IsWhole 1 (nth l 0) × IsHalf x (nth l 1) × IsWhole y (nth l 2) × IsWhole 0 (nth l 3) × IsWhole 0 (nth l 4)
ExactFive (line x y u v) l = IsWhole 2 (nth l 0) × IsHalf x (nth l 1) × IsWhole y (nth l 2) × IsHalf u (nth l 3) × IsWhole v (nth l 4)
