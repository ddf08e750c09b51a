-- The levels written one after another, and with each vertex its right sibling.
use Rattle.std.specs.Prelude.{Bool, cond, List, [], ◌∷◌, ◌++◌, reverse, ℕ, ◌+◌, ◌-◌}
use Rattle.plan.specs.Plan.{numbers}

unfoldable pub joined : List (List ℕ) → List ℕ
joined [] = []
joined (l ∷ ls) = l ++ joined ls

-- Each number's follower in a list, 2048 for the last.
unfoldable pub followers : List ℕ → List ℕ
followers [] = []
followers (v ∷ []) = 2048 ∷ []
followers (v ∷ w ∷ ws) = w ∷ followers (w ∷ ws)

-- A level of n vertices from v on, and levels of these sizes, in the order in hand.
abbrev pub level_by : Bool → ℕ → ℕ → List ℕ
level_by reversed v n = cond reversed (reverse (numbers v n)) (numbers v n)

unfoldable pub levels_by : Bool → ℕ → List ℕ → List (List ℕ)
levels_by reversed v [] = []
levels_by reversed v (n ∷ ns) = level_by reversed v n ∷ levels_by reversed (v + n) ns

-- The j-th vertex of such a level.
abbrev pub vertex_by : Bool → ℕ → ℕ → ℕ → ℕ
vertex_by reversed v n j = cond reversed (v + n - 1 - j) (v + j)
