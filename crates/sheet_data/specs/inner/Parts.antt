-- A plan and its drawing in arrays, with their counts: what is in them, and whether it is refused.
use Rattle.std.specs.Prelude.{Bool, true, List, [], ◌≡◌, ℕ, ◌+◌, length, take, get_or, Float}
use Rattle.ints.specs.Lists.{concat}
use Rattle.plan.specs.Plan.{PlanData}
use Rattle.plan.specs.Stored.{plan_data}
use Rattle.plan.specs.declared.data.Plan.{Plan}
use Rattle.plan_renumber.specs.Renumber.{own_numbers}
use Rattle.report.specs.Refusal13.{is_stored_plan, is_drawing_in}
use Rattle.passes.specs.Drawing.{Drawing, drawing_of}
use Rattle.passes.specs.Demand3.{Demand3}
use Rattle.report.specs.Lines.{report_lines}
use Rattle.report.specs.Numbers.{in_numbers}
use Rattle.marks.specs.declared.types.Mark.{Mark}
use Rattle.marks.specs.Marks.{mark_of, all_numbers}
use Rattle.report.specs.declared.data.Drawing.{Drawing as Arrays}
use Rattle.report.specs.declared.data.NewDrawing.{NewDrawing}
use Rattle.report.specs.declared.data.Counts.{Counts}
use Rattle.report.specs.Arrays.{drawing_from, arrays_of}

-- The plan and the drawing that lie in the arrays, and 13 of each.
abbrev pub plan_with : Plan → Counts → PlanData
plan_with p c = plan_data p c.vertices c.segments

abbrev pub drawing_with : Arrays → Counts → Drawing
drawing_with d c = drawing_from d c.vertices c.placings

abbrev pub is_plan_with : Plan → Counts → Bool
is_plan_with p c = is_stored_plan p c.vertices c.segments

-- The numbers of its vertices in the text, and 13 of them.
abbrev pub numbers_in : List ℕ → Counts → List ℕ
numbers_in m c = take c.vertices m

abbrev pub are_own_with : Plan → List ℕ → Counts → Bool
are_own_with p m c = own_numbers (plan_with p c) (numbers_in m c)

abbrev pub is_drawing_with : Plan → Arrays → Counts → Bool
is_drawing_with p d c = is_drawing_in p d c.vertices c.segments c.placings

-- Neither is refused.
pub record Holds (p : Plan) (d : Arrays) (c : Counts) : Type 0 where
  pub plan : is_plan_with p c ≡ true
  pub drawing : is_drawing_with p d c ≡ true

-- How many lines and marks there are, and which.
abbrev pub lines_of : Counts → ℕ
lines_of c = c.vertices + c.placings + 2

abbrev pub lines_with : Plan → List ℕ → Arrays → Counts → List (List ℕ)
lines_with p m d c = report_lines (plan_with p c) (in_numbers (numbers_in m c) (drawing_with d c))

abbrev pub line_with : Plan → List ℕ → Arrays → Counts → ℕ → List ℕ
line_with p m d c n = get_or (lines_with p m d c) n []

abbrev pub report_with : Plan → List ℕ → Arrays → Counts → List ℕ
report_with p m d c = concat (lines_with p m d c)

abbrev pub marks_of : Counts → ℕ
marks_of c = c.vertices + c.segments

abbrev pub mark_with : Plan → Arrays → Counts → ℕ → Mark
mark_with p d c n = mark_of (plan_with p c) (drawing_with d c).final n

abbrev pub numbers_with : Plan → Arrays → Counts → List Float
numbers_with p d c = all_numbers (plan_with p c) (drawing_with d c).final

-- A drawing's arrays, and how many placings it lists.
abbrev pub new_drawing : Drawing → NewDrawing
new_drawing d = record { drawing = arrays_of d; placings = length d.placings }

-- What a draw makes of a plan: that, and demand 3 holds of what lies in the arrays.
pub record Draws (p : Plan) (c : Counts) (r : NewDrawing) : Type 0 where
  pub is : r ≡ new_drawing (drawing_of (plan_with p c))
  pub demand3 : Demand3 (plan_with p c) (drawing_from r.drawing c.vertices r.placings)
