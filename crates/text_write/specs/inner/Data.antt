-- A plan's data in lists as long as the data, and a stored plan with the stage's counts.
use Rattle.std.specs.Prelude.{◌≡◌, Bool, true, List, [], ◌∷◌, map, ℕ, ◌≤◌, ◌<◌, length, take, get_or}
use Rattle.ints.specs.Lists.{sum, concat}
use Rattle.plan.specs.Limits.{max_levels}
use Rattle.plan.specs.Plan.{PlanData, numbers, data_of}
use Rattle.plan.specs.Segments.{Rated}
use Rattle.plan.specs.Acceptable.{limits_hold}
use Rattle.plan.specs.inner.Graph.{segment}
use Rattle.text.specs.Writing.{vertex_words, level_line_of, lines_of}
use Rattle.text_write.specs.inner.Written.{Room}

-- The data of which these lists are part, as far as a vertex's words ask for them.
abbrev pub vertices_of : List Bool → List ℕ → PlanData
vertices_of vias halves = data_of 0 0 0 [] vias halves [] [] []

-- The data of which these numbers are part, as far as the plan line asks for them.
abbrev pub numbers_of : ℕ → ℕ → ℕ → PlanData
numbers_of levels gap spacing = data_of levels gap spacing [] [] [] [] [] []

-- The vertices of a level, from left to right, one after another: "(box 3) (via)", each with a space before it.
abbrev pub row_words : PlanData → List ℕ → List ℕ
row_words p vs = concat (map (vertex_words p) vs)

-- The words of a vertex of this kind and half-width.
abbrev pub words_of : Bool → ℕ → List ℕ
words_of via half = vertex_words (vertices_of (via ∷ []) (half ∷ [])) 0

-- The segment (seg a b) with the rating w.
abbrev pub rated_segment : ℕ → ℕ → ℕ → Rated
rated_segment a b w = record { segment = segment a b; rating = w }

-- Line n of the plan's text.
abbrev pub line_of : PlanData → ℕ → List ℕ
line_of p n = get_or (lines_of p) n []

-- "A text of an acceptable plan has at most 51,738 bytes"
abbrev pub max_text : ℕ
max_text = 51738

-- The vertices of level l, the first of which is 0 here.
abbrev pub level_vertices : List ℕ → ℕ → List ℕ
level_vertices sizes l = numbers (sum (take l sizes)) (get_or sizes l 0)

-- There is a level l, its vertices are all there, and the buffer has room for its line.
pub record LevelRoom (sizes : List ℕ) (vias : List Bool) (halves : List ℕ) (l : ℕ) (o : List ℕ) (at : ℕ) : Type 0 where
  pub levels : length sizes ≤ max_levels
  pub level : l < length sizes
  pub vertices : sum sizes ≡ length vias
  pub half : length halves ≡ length vias
  pub room : Room (level_line_of (vertices_of vias halves) (level_vertices sizes l)) o at

-- The plan is within its limits, its text has a line n, and the buffer has room for it.
pub record LineRoom (p : PlanData) (n : ℕ) (o : List ℕ) (at : ℕ) : Type 0 where
  pub plan : limits_hold p ≡ true
  pub line : n < length (lines_of p)
  pub room : Room (line_of p n) o at
