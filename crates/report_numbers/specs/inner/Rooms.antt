-- The report of a drawing in lists, in remembered numbers m, and that a buffer has room for it.
use Rattle.std.specs.Prelude.{◌≡◌, List, ℕ, ◌+◌, ◌≤◌, ◌<◌, length, take, ℤ}
use Rattle.ints.specs.Lists.{sum, concat}
use Rattle.plan.specs.Limits.{max_levels, max_vertices}
use Rattle.plan.specs.inner.Graph.{Below}
use Rattle.plan_renumber.specs.inner.Words.{Once}
use Rattle.text_write.specs.inner.Written.{Room}
use Rattle.report.specs.Lines.{report_lines}
use Rattle.report.specs.Numbers.{in_numbers}
use Rattle.report_lines.specs.inner.Stored.{plan_part, drawing_from, Stored, line_of}

abbrev pub line_by : List ℕ → ℕ → List ℕ → List ℤ → List ℤ → List ℕ → List ℕ → List ℕ → List ℕ → List ℤ → ℕ → List ℕ
line_by m spacing sizes preliminary finals passes levels counts vertices positions n =
    line_of (plan_part spacing sizes (length m)) (in_numbers m (drawing_from preliminary finals passes levels counts vertices positions)) n

abbrev pub report_by : List ℕ → ℕ → List ℕ → List ℤ → List ℤ → List ℕ → List ℕ → List ℕ → List ℕ → List ℤ → List ℕ
report_by m spacing sizes preliminary finals passes levels counts vertices positions =
    concat (report_lines (plan_part spacing sizes (length m)) (in_numbers m (drawing_from preliminary finals passes levels counts vertices positions)))

-- A drawing of few vertices, each of which has one number, and every box that is counted is one of them.
pub record HasNumbers (m sizes : List ℕ) (preliminary finals : List ℤ) (passes levels counts vertices : List ℕ) (positions : List ℤ) : Type 0 where
  pub once : Once (length m) m
  pub few : length sizes ≤ max_levels
  pub in_limit : length m ≤ max_vertices
  pub of_preliminary : length preliminary ≡ length m
  pub stored : Stored preliminary finals passes levels counts vertices positions
  pub boxes : Below (length m) (take (sum counts) vertices)

-- There is a line n, and the buffer has room for it; it has room for all lines.
pub record LineRoomBy (m : List ℕ) (spacing : ℕ) (sizes : List ℕ) (preliminary finals : List ℤ) (passes levels counts vertices : List ℕ)
    (positions : List ℤ) (n : ℕ) (o : List ℕ) : Type 0 where
  pub numbered : HasNumbers m sizes preliminary finals passes levels counts vertices positions
  pub line : n < length m + length passes + 2
  pub room : Room (line_by m spacing sizes preliminary finals passes levels counts vertices positions n) o 0

pub record ReportRoomBy (m : List ℕ) (spacing : ℕ) (sizes : List ℕ) (preliminary finals : List ℤ) (passes levels counts vertices : List ℕ)
    (positions : List ℤ) (o : List ℕ) : Type 0 where
  pub numbered : HasNumbers m sizes preliminary finals passes levels counts vertices positions
  pub room : Room (report_by m spacing sizes preliminary finals passes levels counts vertices positions) o 0
