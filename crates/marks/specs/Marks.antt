-- The marks of a plan's drawing whose final positions are xs, in whole numbers and in f64. "Vertices come first, then segments."
use Rattle.std.specs.Prelude.{cond, List, [], ◌∷◌, map, ℕ, ◌+◌, ◌-◌, ltb, length, get_or, ℤ, Float}
use Rattle.ints.specs.Lists.{concat}
use Rattle.plan.specs.Plan.{PlanData, numbers, vertex_count, is_via, half_width, level_of, height_of}
use Rattle.passes.specs.State.{position_of}
use Rattle.marks.specs.declared.types.Point.{Point}
use Rattle.marks.specs.declared.types.Mark.{Mark}
use Rattle.marks.specs.declared.types.Mark.TheVariants.{Box, Bend, Line}
use Rattle.marks.specs.Half.{half_of, whole_of}

-- ---- in whole numbers: x in half steps to the right of 0, y in steps below the top level, a half-width in steps
pub data WholeMark : Type 0 where
  box : ℤ → ℕ → ℕ → WholeMark
  bend : ℤ → ℕ → WholeMark
  line : ℤ → ℕ → ℤ → ℕ → WholeMark

-- The y of vertex v.
abbrev pub depth_of : PlanData → ℕ → ℕ
depth_of p v = height_of p (level_of p v)

-- "a box has its centre and half-width, a bend (one per via) a point"
abbrev pub vertex_mark : PlanData → List ℤ → ℕ → WholeMark
vertex_mark p xs v = cond (is_via p v) (bend (position_of xs v) (depth_of p v)) (box (position_of xs v) (depth_of p v) (half_width p v))

-- The ends of the k-th segment.
abbrev pub upper_end : PlanData → ℕ → ℕ
upper_end p k = get_or p.uppers k 0

abbrev pub lower_end : PlanData → ℕ → ℕ
lower_end p k = get_or p.lowers k 0

-- "a line two points": from the upper end to the lower.
abbrev pub segment_mark : PlanData → List ℤ → ℕ → WholeMark
segment_mark p xs k =
    line (position_of xs (upper_end p k)) (depth_of p (upper_end p k)) (position_of xs (lower_end p k)) (depth_of p (lower_end p k))

-- The n-th mark, from 0, and how many there are.
unfoldable pub whole_mark_of : PlanData → List ℤ → ℕ → WholeMark
whole_mark_of p xs n =
    let segment = segment_mark p xs (n - vertex_count p) in
    cond (ltb n (vertex_count p)) (vertex_mark p xs n) segment

abbrev pub mark_count : PlanData → ℕ
mark_count p = vertex_count p + length p.uppers

-- ---- in f64
-- "A point is two f64 numbers in steps".
abbrev pub point_of : ℤ → ℕ → Point
point_of x y = record { x = half_of x; y = whole_of y }

abbrev pub in_f64 : WholeMark → Mark
in_f64 (box x y w) = Box (point_of x y) (whole_of w)
in_f64 (bend x y) = Bend (point_of x y)
in_f64 (line x y u v) = Line (point_of x y) (point_of u v)

-- The n-th mark.
unfoldable pub mark_of : PlanData → List ℤ → ℕ → Mark
mark_of p xs n = in_f64 (whole_mark_of p xs n)

-- A mark as five numbers: its kind (0 a box, 1 a bend, 2 a line), its point, and a box's half-width or a line's second point.
unfoldable pub five_of : Mark → List Float
five_of (Box c w) = whole_of 0 ∷ c.x ∷ c.y ∷ w ∷ whole_of 0 ∷ []
five_of (Bend c) = whole_of 1 ∷ c.x ∷ c.y ∷ whole_of 0 ∷ whole_of 0 ∷ []
five_of (Line a b) = whole_of 2 ∷ a.x ∷ a.y ∷ b.x ∷ b.y ∷ []

-- The numbers of all marks, one after another.
unfoldable pub all_numbers : PlanData → List ℤ → List Float
all_numbers p xs = concat (map (λ n. five_of (mark_of p xs n)) (numbers 0 (mark_count p)))
