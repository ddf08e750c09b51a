-- Preliminary positions: x₋, x₊ and their sum.
use Rattle.std.specs.Prelude.{List, [], ◌∷◌, map, reverse, ℕ, ℤ, pos, neg_ℤ, ◌+ℤ◌}
use Rattle.plan.specs.Plan.{PlanData, vertex_count, numbers, levels_of, siblings_of}
use Rattle.plan.specs.Segments.{inner_segments}
use Rattle.plan.specs.Strands.{strand_in}
use Rattle.preliminary.specs.Classes.{classes_of}
use Rattle.preliminary.specs.Place.{placed_strands}
use Rattle.preliminary.specs.Shift.{shift_each}

-- Strands placed and classes shifted, on levels in the order given.
unfoldable pub positions_on : PlanData → List (List ℕ) → List ℤ
positions_on p levels =
    let inner = inner_segments p in
    let strand = strand_in inner p.levels in
    let siblings = siblings_of levels in
    let classes = classes_of strand (vertex_count p) levels in
    let placed = placed_strands p strand siblings classes in
    shift_each p siblings classes (numbers 1 p.levels) (map pos placed)

-- "This gives x₋."
unfoldable pub left_positions : PlanData → List ℤ
left_positions p = positions_on p (levels_of p)

-- "For x₊ reverse every level, do the same, negate."
unfoldable pub right_positions : PlanData → List ℤ
right_positions p = map neg_ℤ (positions_on p (map reverse (levels_of p)))

unfoldable pub sums : List ℤ → List ℤ → List ℤ
sums [] ys = []
sums (x ∷ xs) [] = []
sums (x ∷ xs) (y ∷ ys) = (x +ℤ y) ∷ sums xs ys

-- "The preliminary position is x₋ + x₊, in half steps".
unfoldable pub preliminary : PlanData → List ℤ
preliminary p = sums (left_positions p) (right_positions p)
