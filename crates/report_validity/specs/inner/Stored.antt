-- Refusal 13 of a drawing as it lies in arrays.
use Rattle.std.specs.Prelude.{Bool, ◌&&◌, List, ◌≡◌, ℕ, ◌≤◌, leb, length, ℤ}
use Rattle.ints.specs.Lists.{sum}
use Rattle.plan.specs.Limits.{max_vertices}
use Rattle.plan.specs.Plan.{PlanData}
use Rattle.passes.specs.Stored.{placings_from}
use Rattle.passes.specs.Words.{max_listed}
use Rattle.report.specs.Refusal13.{is_drawing}

-- Whether a drawing is one that is not refused: preliminary and final positions, and the list of placings in its arrays, as many
-- passes, levels and numbers of boxes as there are placings. Boxes beyond what the arrays hold are more than 2,048.
abbrev pub is_stored_drawing : PlanData → List ℤ → List ℤ → List ℕ → List ℕ → List ℕ → List ℕ → List ℤ → Bool
is_stored_drawing p preliminary finals passes levels counts vertices positions =
    leb (sum counts) max_listed
    && is_drawing p (record { preliminary = preliminary; final = finals; placings = placings_from passes levels counts vertices positions })

-- The level sizes and vias of a plan.
pub record OfPlan (p : PlanData) (sizes : List ℕ) (vias : List Bool) : Type 0 where
  pub of_levels : p.levels ≡ length sizes
  pub of_sizes : p.sizes ≡ sizes
  pub of_vias : p.vias ≡ vias

-- What the levels of an acceptable plan hold together by.
pub record StoredLevels (sizes : List ℕ) (vias : List Bool) : Type 0 where
  pub total : sum sizes ≡ length vias
  pub few : length vias ≤ max_vertices

-- The arrays of a list with at most 2,048 placings.
pub record StoredList (passes levels counts vertices : List ℕ) (positions : List ℤ) : Type 0 where
  pub placings : length passes ≤ max_listed
  pub of_levels : length levels ≡ length passes
  pub of_counts : length counts ≡ length passes
  pub of_vertices : length vertices ≡ max_listed
  pub of_positions : length positions ≡ max_listed
