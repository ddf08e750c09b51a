-- Classes: "on each level l from the top, start with number l and go left to right; a vertex without a class gives the
-- current number to its whole strand; a vertex with one makes that number current."
use Rattle.std.specs.Prelude.{cond, List, [], ◌∷◌, ℕ, ◌+◌, eqb, get_or, set, replicate}

-- The number c is written at each of these vertices.
unfoldable pub give : ℕ → List ℕ → List ℕ → List ℕ
give c [] classes = classes
give c (v ∷ vs) classes = give c vs (set classes v c)

-- Along one level, c being the current number. `classes` has a number for each vertex, 0 where it has no class yet; `strand`
-- gives the strand of a vertex.
unfoldable pub classes_on : (ℕ → List ℕ) → ℕ → List ℕ → List ℕ → List ℕ
classes_on strand c [] classes = classes
classes_on strand c (v ∷ vs) classes =
    let new = classes_on strand c vs (give c (strand v) classes) in
    let old = classes_on strand (get_or classes v 0) vs classes in
    cond (eqb (get_or classes v 0) 0) new old

-- The levels from l on.
unfoldable pub classes_from : (ℕ → List ℕ) → ℕ → List (List ℕ) → List ℕ → List ℕ
classes_from strand l [] classes = classes
classes_from strand l (vs ∷ levels) classes = classes_from strand (l + 1) levels (classes_on strand l vs classes)

-- The class of each of n vertices.
unfoldable pub classes_of : (ℕ → List ℕ) → ℕ → List (List ℕ) → List ℕ
classes_of strand n levels = classes_from strand 1 levels (replicate n 0)
