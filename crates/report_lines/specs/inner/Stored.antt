-- A drawing in lists, as slices hold it, and the lines of its report.
use Rattle.std.specs.Prelude.{◌≡◌, true, false, List, [], map, ℕ, ◌+◌, ◌≤◌, ◌<◌, length, get_or, take, drop, replicate, ℤ}
use Rattle.ints.specs.Lists.{sum, concat}
use Rattle.plan.specs.Limits.{max_levels, max_vertices}
use Rattle.plan.specs.Plan.{PlanData, numbers, data_of}
use Rattle.plan_checks.specs.inner.Heights.{height_at}
use Rattle.text_write.specs.inner.Written.{Room}
use Rattle.passes.specs.State.{position_of}
use Rattle.passes.specs.Drawing.{Placing, Drawing}
use Rattle.passes.specs.Stored.{placings_from}
use Rattle.ints.specs.Reach.{all_within}
use Rattle.passes.specs.Words.{max_listed, drawing_within}
use Rattle.report_lines.specs.inner.Forms.{placing}
use Rattle.report.specs.Lines.{at_line, place_line, report_lines}

-- The data of which these are part, as far as the report asks for them: the level spacing, the levels' sizes and the number of
-- vertices.
abbrev pub plan_part : ℕ → List ℕ → ℕ → PlanData
plan_part spacing sizes v = data_of 0 0 spacing sizes (replicate v false) [] [] [] []

-- The height of vertex v, by a list that has the height of each.
abbrev pub height_in : List ℕ → ℕ → ℕ
height_in heights v = get_or heights v 0

-- The line of vertex v, which stands at height y.
abbrev pub vertex_line : List ℤ → List ℤ → ℕ → ℕ → List ℕ
vertex_line preliminary finals v y = at_line v (position_of preliminary v) (position_of finals v) y

-- The positions are those of the same vertices, and within reach.
pub record Positions (preliminary finals : List ℤ) : Type 0 where
  pub long : length finals ≡ length preliminary
  pub of_preliminary : all_within preliminary ≡ true
  pub of_finals : all_within finals ≡ true

-- And the levels and vertices are within their limits.
pub record AtLists (sizes : List ℕ) (preliminary finals : List ℤ) : Type 0 where
  pub positions : Positions preliminary finals
  pub few : length sizes ≤ max_levels
  pub in_limit : length preliminary ≤ max_vertices

-- The buffer has room for the line of vertex v, by the heights, and by the spacing and the levels' sizes.
pub record VertexRoom (heights : List ℕ) (preliminary finals : List ℤ) (v : ℕ) (o : List ℕ) (at : ℕ) : Type 0 where
  pub vertex : v < length preliminary
  pub table : length heights ≡ length preliminary
  pub positions : Positions preliminary finals
  pub room : Room (vertex_line preliminary finals v (height_in heights v)) o at

pub record AtLineRoom (spacing : ℕ) (sizes : List ℕ) (preliminary finals : List ℤ) (v : ℕ) (o : List ℕ) (at : ℕ) : Type 0 where
  pub vertex : v < length preliminary
  pub lists : AtLists sizes preliminary finals
  pub room : Room (vertex_line preliminary finals v (height_at spacing sizes v)) o at

-- The lines of the vertices from the n-th at-line on, `count` of them, one after another; `height` has the height of each vertex.
abbrev pub vertex_lines : List ℤ → List ℤ → (ℕ → ℕ) → ℕ → ℕ → List ℕ
vertex_lines preliminary finals height n count =
    concat (map (λ i. vertex_line preliminary finals i (height i)) (numbers n count))

abbrev pub all_vertex_lines : List ℤ → List ℤ → (ℕ → ℕ) → List ℕ
all_vertex_lines preliminary finals height = vertex_lines preliminary finals height 0 (length preliminary)

-- The buffer has room for the lines of all vertices, by the heights, and by the spacing and the levels' sizes.
pub record VerticesRoom (heights : List ℕ) (preliminary finals : List ℤ) (o : List ℕ) (at : ℕ) : Type 0 where
  pub table : length heights ≡ length preliminary
  pub positions : Positions preliminary finals
  pub room : Room (all_vertex_lines preliminary finals (height_in heights)) o at

pub record AtLinesRoom (spacing : ℕ) (sizes : List ℕ) (preliminary finals : List ℤ) (o : List ℕ) (at : ℕ) : Type 0 where
  pub lists : AtLists sizes preliminary finals
  pub room : Room (all_vertex_lines preliminary finals (height_at spacing sizes)) o at

-- The k-th placing, whose boxes start at `start`.
abbrev pub placing_of : List ℕ → List ℕ → List ℕ → List ℕ → List ℤ → ℕ → ℕ → Placing
placing_of passes levels counts vertices positions k start =
    placing (get_or passes k 0) (get_or levels k 0) (take (get_or counts k 0) (drop start vertices)) (take (get_or counts k 0) (drop start positions))

pub record PlacingRoom (passes levels counts vertices : List ℕ) (positions : List ℤ) (k start : ℕ) (o : List ℕ) (at : ℕ) : Type 0 where
  pub listed : k < length passes
  pub of_levels : length levels ≡ length passes
  pub of_counts : length counts ≡ length passes
  pub of_vertices : start + get_or counts k 0 ≤ length vertices
  pub of_positions : start + get_or counts k 0 ≤ length positions
  pub within : all_within (take (get_or counts k 0) (drop start positions)) ≡ true
  pub room : Room (place_line (placing_of passes levels counts vertices positions k start)) o at

-- The drawing that lies in such lists.
abbrev pub drawing_from : List ℤ → List ℤ → List ℕ → List ℕ → List ℕ → List ℕ → List ℤ → Drawing
drawing_from preliminary finals passes levels counts vertices positions =
    record { preliminary = preliminary; final = finals; placings = placings_from passes levels counts vertices positions }

-- They are as long as they must be, and what is drawn is within its limits.
pub record Stored (preliminary finals : List ℤ) (passes levels counts vertices : List ℕ) (positions : List ℤ) : Type 0 where
  pub of_finals : length finals ≡ length preliminary
  pub of_levels : length levels ≡ length passes
  pub of_counts : length counts ≡ length passes
  pub few : sum counts ≤ max_listed
  pub of_vertices : sum counts ≤ length vertices
  pub of_positions : sum counts ≤ length positions
  pub within : drawing_within (drawing_from preliminary finals passes levels counts vertices positions) ≡ true

-- Line n of the report.
abbrev pub line_of : PlanData → Drawing → ℕ → List ℕ
line_of p d n = get_or (report_lines p d) n []

-- Line n of the report of such a drawing, and the whole report.
abbrev pub report_line_of : ℕ → List ℕ → List ℤ → List ℤ → List ℕ → List ℕ → List ℕ → List ℕ → List ℤ → ℕ → List ℕ
report_line_of spacing sizes preliminary finals passes levels counts vertices positions n =
    line_of (plan_part spacing sizes (length preliminary)) (drawing_from preliminary finals passes levels counts vertices positions) n

abbrev pub report_of : ℕ → List ℕ → List ℤ → List ℤ → List ℕ → List ℕ → List ℕ → List ℕ → List ℤ → List ℕ
report_of spacing sizes preliminary finals passes levels counts vertices positions =
    concat (report_lines (plan_part spacing sizes (length preliminary)) (drawing_from preliminary finals passes levels counts vertices positions))

-- There is a line n, and the buffer has room for it.
pub record LineRoom (spacing : ℕ) (sizes : List ℕ) (preliminary finals : List ℤ) (passes levels counts vertices : List ℕ)
    (positions : List ℤ) (n : ℕ) (o : List ℕ) : Type 0 where
  pub few : length sizes ≤ max_levels
  pub in_limit : length preliminary ≤ max_vertices
  pub stored : Stored preliminary finals passes levels counts vertices positions
  pub line : n < length preliminary + length passes + 2
  pub room : Room (report_line_of spacing sizes preliminary finals passes levels counts vertices positions n) o 0

-- The placings' lines, one after another.
abbrev pub place_lines : List Placing → List ℕ
place_lines qs = concat (map place_line qs)

-- The arrays of a list of placings are as long as they must be.
pub record PlacingsRoom (passes levels counts vertices : List ℕ) (positions : List ℤ) (o : List ℕ) (at : ℕ) : Type 0 where
  pub of_levels : length levels ≡ length passes
  pub of_counts : length counts ≡ length passes
  pub of_vertices : sum counts ≤ length vertices
  pub of_positions : sum counts ≤ length positions
  pub within : all_within (take (sum counts) positions) ≡ true
  pub room : Room (place_lines (placings_from passes levels counts vertices positions)) o at

-- The buffer has room for the whole report.
pub record ReportRoom (spacing : ℕ) (sizes : List ℕ) (preliminary finals : List ℤ) (passes levels counts vertices : List ℕ)
    (positions : List ℤ) (o : List ℕ) : Type 0 where
  pub few : length sizes ≤ max_levels
  pub in_limit : length preliminary ≤ max_vertices
  pub stored : Stored preliminary finals passes levels counts vertices positions
  pub room : Room (report_of spacing sizes preliminary finals passes levels counts vertices positions) o 0

-- How many bytes a line has at most: "(place 3 64", 64 boxes as " (1023 -1099511627776)", ")" and LF.
abbrev pub max_line : ℕ
max_line = 1421

-- And a report: 20 for the first line, 47 a vertex, 13 a placing, 22 a box in the placings, 6 for the last line.
abbrev pub max_report : ℕ
max_report = 119834
