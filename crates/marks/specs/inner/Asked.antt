-- What the programs that make one mark and all marks ask of their lists, and of which plan they speak.
use Rattle.std.specs.Prelude.{Bool, true, List, ◌≡◌, ℕ, ◌+◌, ◌<◌, ◌≤◌, length, get_or, ℤ, Float}
use Rattle.ints.specs.Lists.{over}
use Rattle.ints.specs.Reach.{all_within}
use Rattle.plan.specs.Limits.{max_levels, max_vertices, max_spacing}
use Rattle.plan.specs.Plan.{PlanData, data_of}
use Rattle.plan.specs.inner.Graph.{Below}
use Rattle.plan_checks.specs.inner.Heights.{HeightsOf}
use Rattle.passes.specs.State.{position_of}
use Rattle.marks.specs.declared.types.Point.{Point}
use Rattle.marks.specs.declared.types.Mark.{Mark}
use Rattle.marks.specs.declared.types.Mark.TheVariants.{Line}
use Rattle.marks.specs.Half.{max_whole}
use Rattle.marks.specs.Marks.{point_of, mark_of, all_numbers}

-- ---- of each vertex its height and its final position
-- So low and so near that f64 has them exactly.
pub record Standing (heights : List ℕ) (xs : List ℤ) : Type 0 where
  pub long : length heights ≡ length xs
  pub low : (v : ℕ) → v < length heights → get_or heights v 0 ≤ max_whole
  pub within : all_within xs ≡ true

-- Where vertex v stands.
abbrev pub point_in : List ℕ → List ℤ → ℕ → Point
point_in heights xs v = point_of (position_of xs v) (get_or heights v 0)

-- The line from a down to b.
abbrev pub line_in : List ℕ → List ℤ → ℕ → ℕ → Mark
line_in heights xs a b = Line (point_in heights xs a) (point_in heights xs b)

-- ---- the other lists
-- Within the limits, of lengths that agree, and segment ends that are vertices.
pub record Agreeing (vias : List Bool) (halves uppers lowers : List ℕ) (xs : List ℤ) : Type 0 where
  pub few : length vias ≤ max_vertices
  pub widths : length halves ≡ length vias
  pub positions : length xs ≡ length vias
  pub ends : length lowers ≡ length uppers
  pub upper : Below (length vias) uppers
  pub lower : Below (length vias) lowers

-- A plan with these data, whatever its gap.
abbrev pub DataOf : PlanData → ℕ → List ℕ → List Bool → List ℕ → List ℕ → List ℕ → Type 0
DataOf p spacing sizes vias halves uppers lowers = p ≡ data_of p.levels p.gap spacing sizes vias halves uppers lowers p.ratings

-- A plan with these data whose vertices stand at these heights.
pub record DataAt (p : PlanData) (heights : List ℕ) (vias : List Bool) (halves uppers lowers : List ℕ) : Type 0 where
  pub raised : HeightsOf p.spacing p.sizes heights
  pub lists : DataOf p p.spacing p.sizes vias halves uppers lowers

-- ---- by heights
pub record AskedEach (heights : List ℕ) (vias : List Bool) (halves uppers lowers : List ℕ) (xs : List ℤ) : Type 0 where
  pub standing : Standing heights xs
  pub agreeing : Agreeing vias halves uppers lowers xs

pub record AskedAt (heights : List ℕ) (vias : List Bool) (halves uppers lowers : List ℕ) (xs : List ℤ) (n : ℕ) : Type 0 where
  pub lists : AskedEach heights vias halves uppers lowers xs
  pub number : n < length vias + length uppers

-- r is the n-th mark; `out` is o with the numbers of all marks at its front.
abbrev pub IsMarkAt : List ℕ → List Bool → List ℕ → List ℕ → List ℕ → List ℤ → ℕ → Mark → Type 0
IsMarkAt heights vias halves uppers lowers xs n r = (p : PlanData) → DataAt p heights vias halves uppers lowers → r ≡ mark_of p xs n

abbrev pub AreMarksAt : List ℕ → List Bool → List ℕ → List ℕ → List ℕ → List ℤ → List Float → List Float → Type 0
AreMarksAt heights vias halves uppers lowers xs o out =
    (p : PlanData) → DataAt p heights vias halves uppers lowers → out ≡ over (all_numbers p xs) o

-- ---- by spacing and levels
-- The spacing and the levels within their limits, and final positions within ±2^40.
pub record InReach (spacing : ℕ) (sizes : List ℕ) (xs : List ℤ) : Type 0 where
  pub spaced : spacing ≤ max_spacing
  pub levels : length sizes ≤ max_levels
  pub within : all_within xs ≡ true

pub record AskedAll (spacing : ℕ) (sizes : List ℕ) (vias : List Bool) (halves uppers lowers : List ℕ) (xs : List ℤ) : Type 0 where
  pub near : InReach spacing sizes xs
  pub agreeing : Agreeing vias halves uppers lowers xs

-- And n the number of a mark.
pub record Asked (spacing : ℕ) (sizes : List ℕ) (vias : List Bool) (halves uppers lowers : List ℕ) (xs : List ℤ) (n : ℕ) : Type 0 where
  pub lists : AskedAll spacing sizes vias halves uppers lowers xs
  pub number : n < length vias + length uppers

-- As above.
abbrev pub IsMark : ℕ → List ℕ → List Bool → List ℕ → List ℕ → List ℕ → List ℤ → ℕ → Mark → Type 0
IsMark spacing sizes vias halves uppers lowers xs n r =
    (p : PlanData) → DataOf p spacing sizes vias halves uppers lowers → r ≡ mark_of p xs n

abbrev pub AreMarks : ℕ → List ℕ → List Bool → List ℕ → List ℕ → List ℕ → List ℤ → List Float → List Float → Type 0
AreMarks spacing sizes vias halves uppers lowers xs o out =
    (p : PlanData) → DataOf p spacing sizes vias halves uppers lowers → out ≡ over (all_numbers p xs) o
