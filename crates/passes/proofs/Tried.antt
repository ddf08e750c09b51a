-- The words of demand 3 of the drawing that the passes make, as one question that computes.
use mathlib.Core.Bool.{Bool, true, false, cond, ◌&&◌}
use mathlib.Core.List.{List, [], ◌∷◌}
use lib.ListN.{length}
use lib.IntN.{ℤ, ◌-ℤ◌}
use Rattle.plan.specs.Plan.{PlanData, numbers}
use Rattle.plan.specs.Checks.{every}
use Rattle.passes.specs.State.{Step}
use Rattle.passes.specs.Ready.{equals}
use Rattle.passes.specs.Drawing.{trace_of, drawing_of}
use Rattle.passes.specs.Words.{finished, keeps_order, inner_upright, bends_at_most_twice, placed_as_due, step_at, is_placement_then, drawing_within}

unfoldable pub same_all : List ℤ → List ℤ → Bool
same_all [] [] = true
same_all [] (y ∷ ys) = false
same_all (x ∷ xs) [] = false
same_all (x ∷ xs) (y ∷ ys) =
    let more = same_all xs ys in
    cond (equals (x -ℤ y) 0) more false

unfoldable pub placements_hold : PlanData → List Step → Bool
placements_hold p trace = every (λ i. is_placement_then p trace i (step_at trace i).positions) (numbers 0 (length trace))

unfoldable pub words_hold : PlanData → Bool
words_hold p =
    let d = drawing_of p in
    let trace = trace_of p in
    let xs = d.final in
    same_all xs (finished p trace) && keeps_order p xs && inner_upright p xs && bends_at_most_twice p xs && placed_as_due p trace
    && placements_hold p trace && drawing_within d

-- Named on an `unfolding` line beside `passes_open`, it opens the definitions of this file.
unfoldable pub tried_open : Unit {0}
unfolding same_all placements_hold words_hold
tried_open = tt
