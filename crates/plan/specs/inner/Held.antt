-- A plan that passes the checks, by the lists that a program holds of it.
use Rattle.std.specs.Prelude.{Bool, true, List, ◌≡◌, ℕ, length}
use Rattle.plan.specs.Plan.{PlanData, data_of}
use Rattle.plan.specs.Acceptable.{acceptable}

-- The plan that these lists hold.
abbrev pub held_plan : ℕ → ℕ → List ℕ → List Bool → List ℕ → List ℕ → List ℕ → List ℕ → PlanData
held_plan gap spacing sizes vias halves uppers lowers ratings = data_of (length sizes) gap spacing sizes vias halves uppers lowers ratings

-- p has these lists, whatever its spacing and its ratings, and passes the checks.
pub record HoldsPlan (p : PlanData) (gap : ℕ) (sizes : List ℕ) (vias : List Bool) (halves uppers lowers : List ℕ) : Type 0 where
  pub levels_are : p.levels ≡ length sizes
  pub gap_is : p.gap ≡ gap
  pub sizes_are : p.sizes ≡ sizes
  pub vias_are : p.vias ≡ vias
  pub halves_are : p.halves ≡ halves
  pub uppers_are : p.uppers ≡ uppers
  pub lowers_are : p.lowers ≡ lowers
  pub ok : acceptable p ≡ true

-- There is such a plan.
pub record SomePlan (gap : ℕ) (sizes : List ℕ) (vias : List Bool) (halves uppers lowers : List ℕ) : Type 0 where
  pub plan : PlanData
  pub lists : HoldsPlan plan gap sizes vias halves uppers lowers
