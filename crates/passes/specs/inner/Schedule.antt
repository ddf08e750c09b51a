-- The passes as one list of visits. Each run of the plan is visited exactly once in each of the three.
use Rattle.std.specs.Prelude.{List, [], ◌∷◌, ◌++◌, map, reverse, ℕ, ◌+◌}
use Rattle.plan.specs.Plan.{PlanData, numbers}
use Rattle.preliminary.specs.Positions.{preliminary}
use Rattle.passes.specs.Runs.{Run, runs_on}
use Rattle.passes.specs.State.{State, start_at}
use Rattle.passes.specs.Passes.{visit, pass}

pub record Visit : Type 0 where
  pub pass : ℕ
  pub run : Run

abbrev pub visit_of : ℕ → Run → Visit
visit_of q r = record { pass = q; run = r }

unfoldable pub visit_all : PlanData → List Visit → State → State
visit_all p [] s = s
visit_all p (w ∷ ws) s = visit_all p ws (visit p w.pass w.run s)

unfoldable pub pass_visits : PlanData → ℕ → List ℕ → List Visit
pass_visits p q [] = []
pass_visits p q (l ∷ ls) = map (visit_of q) (runs_on p l) ++ pass_visits p q ls

unfoldable pub first_pass : PlanData → List Visit
first_pass p = pass_visits p 1 (numbers 1 p.levels)

unfoldable pub second_pass : PlanData → List Visit
second_pass p = pass_visits p 2 (reverse (numbers 1 p.levels))

unfoldable pub third_pass : PlanData → List Visit
third_pass p = pass_visits p 3 (numbers 1 p.levels)

abbrev pub schedule : PlanData → List Visit
schedule p = first_pass p ++ second_pass p ++ third_pass p

abbrev pub start : PlanData → State
start p = start_at p (preliminary p)
