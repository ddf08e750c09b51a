-- A drawing in lists, and what is left of it in remembered numbers m: m has the number of each vertex.
use Rattle.std.specs.Prelude.{◌≡◌, List, ℕ, ◌≤◌, length, take, ℤ}
use Rattle.ints.specs.Lists.{sum}
use Rattle.plan.specs.inner.Graph.{Below}
use Rattle.plan_renumber.specs.inner.Words.{Once}
use Rattle.passes.specs.Words.{max_listed}
use Rattle.report.specs.Numbers.{in_numbers}
use Rattle.report_lines.specs.inner.Stored.{drawing_from, Stored}

-- Positions, and a list that takes them by number.
pub record Takes (m : List ℕ) (xs out : List ℤ) : Type 0 where
  pub once : Once (length m) m
  pub of_positions : length xs ≡ length m
  pub long : length out ≡ length m

-- A drawing's lists, and those that take it. Every box that is counted is a vertex.
pub record Numberable (m counts : List ℕ) (preliminary finals : List ℤ) (vertices : List ℕ) (starts ends : List ℤ) (names : List ℕ) : Type 0 where
  pub first : Takes m preliminary starts
  pub last : Takes m finals ends
  pub few : length counts ≤ max_listed
  pub of_vertices : sum counts ≤ length vertices
  pub to_names : sum counts ≤ length names
  pub boxes : Below (length m) (take (sum counts) vertices)

-- What is left: the drawing that lay in such lists, in the numbers m.
pub record Numbered (m counts : List ℕ) (preliminary finals : List ℤ) (vertices : List ℕ) (starts ends : List ℤ) (names : List ℕ) : Type 0 where
  pub drawing : (passes levels : List ℕ) (positions : List ℤ) → Stored preliminary finals passes levels counts vertices positions
      → drawing_from starts ends passes levels counts names positions
      ≡ in_numbers m (drawing_from preliminary finals passes levels counts vertices positions)
  pub stored : (passes levels : List ℕ) (positions : List ℤ) → Stored preliminary finals passes levels counts vertices positions
      → Stored starts ends passes levels counts names positions
