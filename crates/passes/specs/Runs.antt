-- Runs: "A run on a level is a maximal, possibly empty, stretch of boxes between neighbouring vias or a level end".
use Rattle.std.specs.Prelude.{Bool, true, false, cond, not, List, [], ◌∷◌, ◌++◌, ℕ, ◌+◌, get_or}
use Rattle.std.proofs.Math.Option.{Option, none, some}
use Rattle.plan.specs.Plan.{PlanData, is_via, level_at, numbers}

-- A run is told by its level and its ordinal there, counted from 0 at the left; the rest is read off the plan: the via on
-- its left, its boxes from left to right, the via on its right.
pub record Run : Type 0 where
  pub level : ℕ
  pub ordinal : ℕ
  pub left : Option ℕ
  pub boxes : List ℕ
  pub right : Option ℕ

abbrev pub run : ℕ → ℕ → Option ℕ → List ℕ → Option ℕ → Run
run l k left boxes right = record { level = l; ordinal = k; left = left; boxes = boxes; right = right }

-- The runs of level l from the k-th on: `left` is the via before it and `boxes` what is known of its boxes, the vertices vs
-- follow.
unfoldable pub runs_from : PlanData → ℕ → ℕ → Option ℕ → List ℕ → List ℕ → List Run
runs_from p l k left boxes [] = run l k left boxes none ∷ []
runs_from p l k left boxes (v ∷ vs) =
    let next = run l k left boxes (some v) ∷ runs_from p l (k + 1) (some v) [] vs in
    let more = runs_from p l k left (boxes ++ (v ∷ [])) vs in
    cond (is_via p v) next more

unfoldable pub runs_on : PlanData → ℕ → List Run
runs_on p l = runs_from p l 0 none [] (level_at p l)

unfoldable pub runs_of_levels : PlanData → List ℕ → List Run
runs_of_levels p [] = []
runs_of_levels p (l ∷ ls) = runs_on p l ++ runs_of_levels p ls

-- All runs of a plan.
unfoldable pub runs_of : PlanData → List Run
runs_of p = runs_of_levels p (numbers 1 p.levels)

abbrev pub no_run : Run
no_run = run 0 0 none [] none

-- The run of level l that is the k-th there.
unfoldable pub run_at : PlanData → ℕ → ℕ → Run
run_at p l k = get_or (runs_on p l) k no_run

-- "it is bounded if a via stands on both sides, else open"
abbrev pub both_vias : Option ℕ → Option ℕ → Bool
both_vias none r = false
both_vias (some v) none = false
both_vias (some v) (some w) = true

abbrev pub is_bounded : Run → Bool
is_bounded r = both_vias r.left r.right

abbrev pub is_open : Run → Bool
is_open r = not (is_bounded r)

-- The members of a run from left to right, "bounds included".
abbrev pub as_list : Option ℕ → List ℕ
as_list none = []
as_list (some v) = v ∷ []

abbrev pub members : Run → List ℕ
members r = as_list r.left ++ r.boxes ++ as_list r.right
