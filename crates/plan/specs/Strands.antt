-- Strands: "A strand is one box, or a maximal chain of vias joined by segments."
use Rattle.std.specs.Prelude.{List, [], ◌∷◌, ℕ, zero, suc}
use Rattle.plan.specs.Plan.{PlanData}
use Rattle.plan.specs.Segments.{Segment, above_in, below_in, inner_segments}

-- The first vertex of a list, and v itself if there is none.
abbrev pub first_or : ℕ → List ℕ → ℕ
first_or v [] = v
first_or v (w ∷ ws) = w

-- The topmost via of the chain through v: n times one inner segment up, or as far as they go.
unfoldable pub top_from : List Segment → ℕ → ℕ → ℕ
top_from inner zero v = v
top_from inner (suc n) v = top_from inner n (first_or v (above_in inner v))

-- The chain from v down, at most n + 1 vertices.
abbrev pub follow : (ℕ → List ℕ) → List ℕ → List ℕ
follow f [] = []
follow f (w ∷ ws) = f w

unfoldable pub chain_from : List Segment → ℕ → ℕ → List ℕ
chain_from inner zero v = v ∷ []
chain_from inner (suc n) v = v ∷ follow (λ w. chain_from inner n w) (below_in inner v)

-- The strand of v, from the top, over the plan's inner segments and its number of levels. A box is on no inner segment, and
-- so is its own strand.
unfoldable pub strand_in : List Segment → ℕ → ℕ → List ℕ
strand_in inner levels v = chain_from inner levels (top_from inner levels v)

unfoldable pub strand_of : PlanData → ℕ → List ℕ
strand_of p v = strand_in (inner_segments p) p.levels v
