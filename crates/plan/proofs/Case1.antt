-- Case 1's plan.
use mathlib.Core.Bool.{true, false}
use mathlib.Core.List.{[], ◌∷◌}
use Rattle.plan.specs.Plan.{PlanData, data_of}

abbrev pub case1 : PlanData
case1 =
    data_of 3 2 10
    (2 ∷ 2 ∷ 1 ∷ [])
    (false ∷ false ∷ true ∷ false ∷ false ∷ [])
    (3 ∷ 3 ∷ 0 ∷ 3 ∷ 3 ∷ [])
    (0 ∷ 1 ∷ 2 ∷ 3 ∷ []) (2 ∷ 3 ∷ 4 ∷ 4 ∷ [])
    (1 ∷ 1 ∷ 1 ∷ 1 ∷ [])
