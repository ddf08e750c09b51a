-- A list of placings as it lies in arrays: of each placing its pass, its level and how many boxes it has; the boxes of all
-- placings one after another, each with its vertex and its position after.
use Rattle.std.specs.Prelude.{List, [], ◌∷◌, ◌++◌, ℕ, ◌-◌, length, take, drop, replicate, ℤ}
use Rattle.passes.specs.Drawing.{Placing, boxes_with}

-- A list in an array of n entries, z beyond it.
abbrev pub padded : {A : Type 0} → ℕ → A → List A → List A
padded n z xs = xs ++ replicate (n - length xs) z

-- The placings that lie in such arrays: passes, levels, numbers of boxes; vertices and positions.
unfoldable pub placings_from : List ℕ → List ℕ → List ℕ → List ℕ → List ℤ → List Placing
placings_from [] ls cs vs ys = []
placings_from (q ∷ qs) [] cs vs ys = []
placings_from (q ∷ qs) (l ∷ ls) [] vs ys = []
placings_from (q ∷ qs) (l ∷ ls) (c ∷ cs) vs ys =
    record { pass = q; level = l; boxes = boxes_with (take c vs) (take c ys) } ∷ placings_from qs ls cs (drop c vs) (drop c ys)
