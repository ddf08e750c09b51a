-- What it means that a mark is shown: it lies inside the view, a box with its whole rectangle, a bend with its whole circle.
use Rattle.std.specs.Prelude.{List, ℕ, ◌*◌, ℤ, pos, ◌+ℤ◌, ◌-ℤ◌, ◌*ℤ◌}
use Rattle.ints.specs.Ints.{◌⊑◌}
use Rattle.plan.specs.Plan.{PlanData}
use Rattle.marks.specs.Marks.{WholeMark, box, bend, line}
use Rattle.picture_view.specs.Measure.{measure, leftmost, rightmost}
use Rattle.picture_view.specs.View.{view_left, view_top, view_width, view_height}

-- The view's ends in thousandths of a step.
abbrev pub left_end : PlanData → List ℤ → ℤ
left_end p xs = pos 500 *ℤ view_left (leftmost p.halves xs) (measure p)

abbrev pub width : PlanData → List ℤ → ℤ
width p xs = pos 500 *ℤ view_width (leftmost p.halves xs) (rightmost p.halves xs) (measure p)

abbrev pub top_end : PlanData → ℤ
top_end p = pos 500 *ℤ view_top (measure p)

abbrev pub height : PlanData → ℤ
height p = pos (1000 * view_height p)

-- A point, in thousandths, lies inside the view.
pub record Inside (p : PlanData) (xs : List ℤ) (x y : ℤ) : Type 0 where
  pub from_left : left_end p xs ⊑ x
  pub to_right : x ⊑ (left_end p xs +ℤ width p xs)
  pub from_top : top_end p ⊑ y
  pub to_bottom : y ⊑ (top_end p +ℤ height p)

-- So does the rectangle of half-width a and half-height b around it.
pub record AllInside (p : PlanData) (xs : List ℤ) (x y : ℤ) (a b : ℕ) : Type 0 where
  pub upper : Inside p xs (x -ℤ pos a) (y -ℤ pos b)
  pub lower : Inside p xs (x +ℤ pos a) (y +ℤ pos b)

abbrev pub Shows : PlanData → List ℤ → WholeMark → Type 0
Shows p xs (box x y w) = AllInside p xs (pos 500 *ℤ x) (pos (1000 * y)) (1000 * w) (200 * measure p)
Shows p xs (bend x y) = AllInside p xs (pos 500 *ℤ x) (pos (1000 * y)) (35 * measure p) (35 * measure p)
Shows p xs (line x y a b) = Inside p xs (pos 500 *ℤ x) (pos (1000 * y)) × Inside p xs (pos 500 *ℤ a) (pos (1000 * b))
