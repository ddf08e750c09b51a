-- What the passes carry along: positions, the distances in force, and the trace of the placings made.
use Rattle.std.specs.Prelude.{List, [], ◌∷◌, ◌++◌, ℕ, ◌*◌, get_or, set, ℤ, pos, ◌-ℤ◌}
use Rattle.ints.specs.Ints.{P}
use Rattle.plan.specs.Plan.{PlanData, distance, levels_of}

-- One placing: its pass, its run, told by level and ordinal, and where the run's boxes stand after it.
pub record Step : Type 0 where
  pub pass : ℕ
  pub level : ℕ
  pub ordinal : ℕ
  pub positions : List ℤ

pub record State : Type 0 where
  -- where each vertex stands
  pub at : List ℤ
  -- of each vertex, the distance in force to its right sibling, 0 where it has none
  pub apart : List ℕ
  -- the placings so far, those of empty runs included
  pub trace : List Step

abbrev pub position_of : List ℤ → ℕ → ℤ
position_of xs v = get_or xs v (pos 0)

-- The boxes vs stand at ys from now on.
unfoldable pub put : List ℕ → List ℤ → List ℤ → List ℤ
put [] ys xs = xs
put (v ∷ vs) [] xs = xs
put (v ∷ vs) (y ∷ ys) xs = put vs ys (set xs v y)

-- "from here every distance is doubled"
abbrev pub doubled : PlanData → ℕ → ℕ → ℕ
doubled p v w = 2 * distance p v w

unfoldable pub doubled_on : PlanData → List ℕ → List ℕ
doubled_on p [] = []
doubled_on p (v ∷ []) = 0 ∷ []
doubled_on p (v ∷ w ∷ ws) = doubled p v w ∷ doubled_on p (w ∷ ws)

unfoldable pub doubled_in : PlanData → List (List ℕ) → List ℕ
doubled_in p [] = []
doubled_in p (vs ∷ levels) = doubled_on p vs ++ doubled_in p levels

-- "The placings start from the preliminary positions".
unfoldable pub start_at : PlanData → List ℤ → State
start_at p xs = record { at = xs; apart = doubled_in p (levels_of p); trace = [] }

-- "its distances, and that to its bound, then become those it has": of each two neighbours among these members of a run.
unfoldable pub take_on : List ℤ → List ℕ → List ℕ → List ℕ
take_on xs [] ds = ds
take_on xs (v ∷ []) ds = ds
take_on xs (v ∷ w ∷ ws) ds = take_on xs (w ∷ ws) (set ds v (P (position_of xs w -ℤ position_of xs v)))
