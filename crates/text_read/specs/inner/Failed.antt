-- The checks of a scanned text. Its data stand at the front of arrays.
use Rattle.std.specs.Prelude.{Bool, List, ◌∷◌, ℕ, ◌≤◌, length, take}
use Rattle.ints.specs.Refusals.{Test, check}
use Rattle.plan.specs.Limits.{max_levels, max_vertices, max_segments}
use Rattle.plan.specs.Checks.{checks_of}
use Rattle.plan.specs.inner.Graph.{graph_of}
use Rattle.text_read.specs.declared.form.Scanned.{Scanned}

-- The arrays have the text's data, and are no longer than the limits allow.
pub record Fronts (s : Scanned) (sizes : List ℕ) (vias : List Bool) (uppers lowers : List ℕ) : Type 0 where
  pub levels : s.levels ≤ length sizes
  pub vertices : s.vertices ≤ length vias
  pub uppers_reach : s.segments ≤ length uppers
  pub lowers_reach : s.segments ≤ length lowers
  pub few_levels : length sizes ≤ max_levels
  pub few_vertices : length vias ≤ max_vertices
  pub few_segments : length uppers ≤ max_segments

-- The checks in their order, 3 to 6 of the data at the front.
abbrev pub checks_in : Scanned → List ℕ → List Bool → List ℕ → List ℕ → List Test
checks_in s sizes vias uppers lowers =
    let front = graph_of (take s.levels sizes) (take s.vertices vias) (take s.segments uppers) (take s.segments lowers) in
    check 1 s.form ∷ check 2 s.limits ∷ checks_of front
