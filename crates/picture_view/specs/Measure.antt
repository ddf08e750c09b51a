-- The measure of a drawing, by which its parts are sized, and how far it reaches to the left and to the right.
use Rattle.std.specs.Prelude.{List, [], ◌∷◌, map, ℕ, ◌+◌, ◌*◌, min, length, get_or, ℤ, pos, ◌+ℤ◌, ◌-ℤ◌}
use Rattle.ints.specs.Lists.{greatest}
use Rattle.ints.specs.Ints.{min_z, max_z}
use Rattle.plan.specs.Plan.{PlanData, numbers}
use Rattle.passes.specs.State.{position_of}

-- "u = the lesser of S and G + 2 W, in steps; W the greatest half-width".
unfoldable pub measure : PlanData → ℕ
measure p = min p.spacing (p.gap + 2 * greatest p.halves)

-- The edges of vertex v in half steps. A via has half-width 0.
abbrev pub left_edge : List ℕ → List ℤ → ℕ → ℤ
left_edge halves xs v = position_of xs v -ℤ pos (2 * get_or halves v 0)

abbrev pub right_edge : List ℕ → List ℤ → ℕ → ℤ
right_edge halves xs v = position_of xs v +ℤ pos (2 * get_or halves v 0)

-- The least and the greatest of x and the numbers ys.
unfoldable pub least_of : ℤ → List ℤ → ℤ
least_of x [] = x
least_of x (y ∷ ys) = least_of (min_z x y) ys

unfoldable pub most_of : ℤ → List ℤ → ℤ
most_of x [] = x
most_of x (y ∷ ys) = most_of (max_z x y) ys

-- "lo = least of (x − 2 × half-width), hi = greatest of (x + 2 × half-width) over vertices, in half steps".
unfoldable pub leftmost : List ℕ → List ℤ → ℤ
leftmost halves xs = least_of (left_edge halves xs 0) (map (left_edge halves xs) (numbers 0 (length xs)))

unfoldable pub rightmost : List ℕ → List ℤ → ℤ
rightmost halves xs = most_of (right_edge halves xs 0) (map (right_edge halves xs) (numbers 0 (length xs)))
