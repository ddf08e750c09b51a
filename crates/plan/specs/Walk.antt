-- The crossing check of two neighbouring levels (document 02, E3): "one walk along the upper level, stopped by the first descent".
use Rattle.std.specs.Prelude.{Bool, true, false, cond, ◌&&◌, List, [], ◌∷◌, ℕ, ◌+◌, ltb, eqb}
use Rattle.ints.specs.Lists.{chosen}
use Rattle.plan.specs.Plan.{PlanData, level_of}
use Rattle.plan.specs.Segments.{Segment, inner_segments}
use Rattle.plan.specs.declared.walk.Walk.{Walk}

-- The inner segments between level l and the next, along level l from the left: segments are sorted by their upper ends.
unfoldable pub inner_below : PlanData → ℕ → List Segment
inner_below p l = chosen (λ s. eqb (level_of p s.upper) l) (inner_segments p)

-- "how many inner segments it took from the left: up to and with the first whose lower end stands left of the one before's, or all".
-- So many are taken, and `last` is the lower end of the one before.
unfoldable pub walk_from : ℕ → ℕ → List Segment → Walk
walk_from taken last [] = record { crossed = false; taken = taken }
walk_from taken last (s ∷ ss) =
    let on = walk_from (taken + 1) s.lower ss in
    cond (ltb s.lower last) (record { crossed = true; taken = taken + 1 }) on

-- The walk from level l to the next. Left of vertex 0 stands none, so the first segment taken is no descent.
unfoldable pub walk : PlanData → ℕ → Walk
walk p l = walk_from 0 0 (inner_below p l)

-- Whether there are levels l and l + 1.
abbrev pub has_next : PlanData → ℕ → Bool
has_next p l = ltb 0 l && ltb l p.levels
