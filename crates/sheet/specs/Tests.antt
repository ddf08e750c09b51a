-- The refusals of a sheet's calls, "from the state".
use Rattle.std.specs.Prelude.{Bool, List, [], ℕ, ◌+◌, ltb, length, get_or, Float}
use Rattle.ints.specs.Lists.{concat}
use Rattle.ints.specs.Refusals.{Test, test, check}
use Rattle.plan.specs.Plan.{PlanData}
use Rattle.plan_renumber.specs.Renumber.{inverse, renumbered, own_numbers}
use Rattle.text.specs.Writing.{lines_of, text_of}
use Rattle.report.specs.Refusal13.{is_stored_plan, is_drawing_in}
use Rattle.report.specs.Lines.{report_lines}
use Rattle.report.specs.Numbers.{in_numbers}
use Rattle.marks.specs.Marks.{all_numbers}
use Rattle.sheet.specs.declared.types.Sheet.{Sheet}
use Rattle.sheet.specs.Sheet.{is_empty, is_drawn, vertices_in, segments_in, placings_in, plan_in, drawing_in, remembered_in}

-- 11: "Draw, line or mark on an empty sheet."
abbrev pub test11 : Sheet → Test
test11 s = test 11 (is_empty s.header.stage)

-- 12: "Line or mark on a sheet not drawn."
abbrev pub test12 : Sheet → Test
test12 s = check 12 (is_drawn s.header.stage)

-- 15: "the sheet was not loaded by E1's way";
abbrev pub test15 : Sheet → Test
test15 s = check 15 s.header.tangled

-- 13: "The plan, with the stage's vertex and segment counts, is that of no text that passes checks 1 to 6";
abbrev pub holds_plan : Sheet → Bool
holds_plan s = is_stored_plan s.plan (vertices_in s.header.stage) (segments_in s.header.stage)

abbrev pub test13_plan : Sheet → Test
test13_plan s = check 13 (holds_plan s)

-- "Remembered numbers that are not each level's own, once each, are refused with 13";
abbrev pub holds_numbers : Sheet → Bool
holds_numbers s = own_numbers (plan_in s) (remembered_in s)

abbrev pub test13_numbers : Sheet → Test
test13_numbers s = check 13 (holds_numbers s)

-- "for line and mark also" what the drawing holds.
abbrev pub holds_drawing : Sheet → Bool
holds_drawing s =
    is_drawing_in s.plan s.drawing (vertices_in s.header.stage) (segments_in s.header.stage) (placings_in s.header.stage)

abbrev pub test13_drawing : Sheet → Test
test13_drawing s = check 13 (holds_drawing s)

-- 7: "No such line or mark." There are V + P + 2 lines and V + E marks.
abbrev pub lines_in : Sheet → ℕ
lines_in s = vertices_in s.header.stage + placings_in s.header.stage + 2

abbrev pub test7_line : Sheet → ℕ → Test
test7_line s n = check 7 (ltb n (lines_in s))

abbrev pub marks_in : Sheet → ℕ
marks_in s = vertices_in s.header.stage + segments_in s.header.stage

abbrev pub test7_mark : Sheet → ℕ → Test
test7_mark s n = check 7 (ltb n (marks_in s))

-- A plan's text has K + E + 2 lines.
abbrev pub text_lines_in : Sheet → ℕ
text_lines_in s = s.plan.levels + segments_in s.header.stage + 2

abbrev pub test7_text : Sheet → ℕ → Test
test7_text s n = check 7 (ltb n (text_lines_in s))

-- 14: "The buffer is shorter than the line", or than all lines, or than the numbers of all marks.
abbrev pub test14 : {A : Type 0} → List A → List A → Test
test14 content buffer = test 14 (ltb (length buffer) (length content))

-- "Report lines use those numbers" that the sheet remembers: the n-th line, and all lines one after another.
abbrev pub all_lines : Sheet → List (List ℕ)
all_lines s = report_lines (plan_in s) (in_numbers (remembered_in s) (drawing_in s))

unfoldable pub line_of : Sheet → ℕ → List ℕ
line_of s n = get_or (all_lines s) n []

unfoldable pub report_of : Sheet → List ℕ
report_of s = concat (all_lines s)

-- "its plan written in its remembered numbers": the plan "as it was read", where the sheet was loaded by E1's way.
unfoldable pub plan_as_read : Sheet → PlanData
plan_as_read s = renumbered (plan_in s) (inverse (remembered_in s))

-- "line n of the plan text as it was read, byte for byte", and all lines.
unfoldable pub text_line_of : Sheet → ℕ → List ℕ
text_line_of s n = get_or (lines_of (plan_as_read s)) n []

unfoldable pub whole_text_of : Sheet → List ℕ
whole_text_of s = text_of (plan_as_read s)

-- The numbers of all marks, five each.
unfoldable pub numbers_of : Sheet → List Float
numbers_of s = all_numbers (plan_in s) (drawing_in s).final
