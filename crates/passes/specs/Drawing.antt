-- A drawing: preliminary and final positions, and the list of placings.
use Rattle.std.specs.Prelude.{List, [], ◌∷◌, ℕ, ℤ}
use Rattle.plan.specs.Plan.{PlanData}
use Rattle.preliminary.specs.Positions.{preliminary}
use Rattle.passes.specs.Runs.{run_at}
use Rattle.passes.specs.State.{Step, State, start_at}
use Rattle.passes.specs.Passes.{three_passes}

-- A box with its position after a placing.
pub record BoxAt : Type 0 where
  pub vertex : ℕ
  pub position : ℤ

-- A listed placing: "its pass, its level, and each box with its position after".
pub record Placing : Type 0 where
  pub pass : ℕ
  pub level : ℕ
  pub boxes : List BoxAt

pub record Drawing : Type 0 where
  pub preliminary : List ℤ
  pub final : List ℤ
  pub placings : List Placing

unfoldable pub boxes_with : List ℕ → List ℤ → List BoxAt
boxes_with [] ys = []
boxes_with (v ∷ vs) [] = []
boxes_with (v ∷ vs) (y ∷ ys) = record { vertex = v; position = y } ∷ boxes_with vs ys

-- "The list holds every placing that the passes make, in their order, except those of empty runs".
abbrev pub listed_before : Step → List BoxAt → List Placing → List Placing
listed_before s [] more = more
listed_before s (b ∷ bs) more = record { pass = s.pass; level = s.level; boxes = b ∷ bs } ∷ more

unfoldable pub listed : PlanData → List Step → List Placing
listed p [] = []
listed p (s ∷ ss) = listed_before s (boxes_with (run_at p s.level s.ordinal).boxes s.positions) (listed p ss)

-- The state after the last placing: "after the last, positions are final".
unfoldable pub final_state : PlanData → State
final_state p = three_passes p (start_at p (preliminary p))

unfoldable pub trace_of : PlanData → List Step
trace_of p = (final_state p).trace

unfoldable pub drawing_of : PlanData → Drawing
drawing_of p =
    let xs = preliminary p in
    let s = three_passes p (start_at p xs) in
    record { preliminary = xs; final = s.at; placings = listed p s.trace }
