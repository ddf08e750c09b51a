-- What checks 3 to 6 ask about: the levels, the kinds of the vertices and the segments; not the widths, the spacing and the ratings.
use Rattle.std.specs.Prelude.{Bool, true, cond, ◌&&◌, List, [], ◌≡◌, ℕ, zero, suc, ◌+◌, ◌<◌, ◌≤◌, ltb, eqb, length, get_or, set}
use Rattle.ints.specs.Lists.{count_of}
use Rattle.plan.specs.Limits.{max_levels, max_vertices, max_segments}
use Rattle.plan.specs.Plan.{PlanData, data_of, level_in}
use Rattle.plan.specs.Segments.{Segment}

-- The data of which these lists are part; gap, spacing, half-widths and ratings are left out.
abbrev pub graph_of : List ℕ → List Bool → List ℕ → List ℕ → PlanData
graph_of sizes vias uppers lowers = data_of (length sizes) 0 0 sizes vias [] uppers lowers []

-- The segment (seg a b).
abbrev pub segment : ℕ → ℕ → Segment
segment a b = record { upper = a; lower = b }

-- n entries from `at` on, all made l.
unfoldable pub filled : List ℕ → ℕ → ℕ → ℕ → List ℕ
filled xs at zero l = xs
filled xs at (suc n) l = filled (set xs at l) (at + 1) n l

-- A list that has the level of each vertex.
pub record Levelled (sizes : List ℕ) (level : List ℕ) : Type 0 where
  pub each : (v : ℕ) → v < length level → get_or level v 0 ≡ level_in sizes v

-- Whether a segment goes one level down, by such a list.
abbrev pub one_down : List ℕ → Segment → Bool
one_down level s =
    ltb s.upper (length level) && ltb s.lower (length level) && eqb (get_or level s.lower 0) (get_or level s.upper 0 + 1)

-- A list that has, of each of n numbers, how often it is in xs.
pub record Counted (n : ℕ) (xs counts : List ℕ) : Type 0 where
  pub long : length counts ≡ n
  pub each : (v : ℕ) → v < n → get_or counts v 0 ≡ count_of v xs

-- All numbers of a list are below n.
abbrev pub Below : ℕ → List ℕ → Type 0
Below n xs = (i : ℕ) → i < length xs → get_or xs i 0 < n

-- Lists within the limits, and as many lower ends as upper ends.
pub record InLimits (sizes : List ℕ) (vias : List Bool) (uppers lowers : List ℕ) : Type 0 where
  pub levels : length sizes ≤ max_levels
  pub vertices : length vias ≤ max_vertices
  pub segments : length uppers ≤ max_segments
  pub ends : length uppers ≡ length lowers

-- Lists within the limits, as many lower ends as upper ends, and every end a vertex.
pub record Within (vias : List Bool) (uppers lowers : List ℕ) : Type 0 where
  pub vertices : length vias ≤ max_vertices
  pub segments : length uppers ≤ max_segments
  pub ends : length uppers ≡ length lowers
  pub upper : Below (length vias) uppers
  pub lower : Below (length vias) lowers

-- A via has one segment up and one down.
abbrev pub through : Bool → ℕ → ℕ → Bool
through via up down = cond via (eqb up 1 && eqb down 1) true
