-- The calls of a sheet: what each answers, and what it leaves in the sheet and in the lent buffer. The tests of each call stand
-- in document 01's order.
use Rattle.std.specs.Prelude.{cond, List, [], ◌∷◌, ◌≡◌, ℕ, ◌*◌, ◌<◌, eqb, length, drop, Float, Result, Ok}
use Rattle.ints.specs.Lists.{over}
use Rattle.ints.specs.Refusals.{Test, first_refusal, Verdict, gives, refuses, verdict_of}
use Rattle.ints.specs.declared.refusal.Refusal.{Refusal}
use Rattle.plan.specs.Plan.{PlanData}
use Rattle.text.specs.Reading.{Reading, accepted, refused as unread, reading, tangled_reading}
use Rattle.passes.specs.Drawing.{drawing_of}
use Rattle.passes.specs.Demand3.{Demand3}
use Rattle.marks.specs.declared.types.Mark.{Mark}
use Rattle.marks.specs.Marks.{whole_mark_of, mark_of}
use Rattle.marks.specs.Exact.{ExactMark, ExactFive}
use Rattle.sheet.specs.declared.types.Sheet.{Sheet}
use Rattle.sheet.specs.Sheet.{plan_in, drawing_in, empty_sheet, loaded_as_read, loaded_untangled, drawn_sheet}
use Rattle.sheet.specs.Results.{result_after}
use Rattle.sheet.specs.Tests.{test11, test12, test15, test13_plan, test13_numbers, test13_drawing, test7_line, marks_in, test7_mark, test7_text, test14}
use Rattle.sheet.specs.Tests.{line_of, report_of, numbers_of, text_line_of, whole_text_of}

-- ---- load
pub record SheetOut : Type 0 where
  pub result : Verdict Unit
  pub sheet : Sheet

abbrev pub sheet_out : Verdict Unit → Sheet → SheetOut
sheet_out r s = record { result = r; sheet = s }

-- "Load replaces whatever was there"; "a refusal returns its number and changes nothing".
abbrev pub load_of : (PlanData → Sheet) → Sheet → Reading → SheetOut
load_of loaded s (accepted p) = sheet_out (gives tt) (loaded p)
load_of loaded s (unread n) = sheet_out (refuses n) s

unfoldable pub load : Sheet → List ℕ → SheetOut
load s text = load_of loaded_as_read s (reading text)

-- "A second way of loading", for plans that arrive tangled.
unfoldable pub load_tangled : Sheet → List ℕ → SheetOut
load_tangled s text = load_of loaded_untangled s (tangled_reading text)

-- ---- draw
abbrev pub draw_tests : Sheet → List Test
draw_tests s = test11 s ∷ test13_plan s ∷ test13_numbers s ∷ []

unfoldable pub draw : Sheet → SheetOut
draw s =
    let n = first_refusal (draw_tests s) in
    let drawn = drawn_sheet s (drawing_of (plan_in s)) in
    sheet_out (result_after n tt) (cond (eqb n 0) drawn s)

-- ---- line, and all lines
pub record BufferOut (A : Type 0) : Type 0 where
  pub result : Verdict ℕ
  pub buffer : List A

abbrev pub TextOut : Type 0
TextOut = BufferOut ℕ

-- Elements "in a lent buffer" with a count, "later bytes stay", unless the tests came out as a refusal.
abbrev pub buffer_after : {A : Type 0} → ℕ → ℕ → List A → List A → BufferOut A
buffer_after n count content buffer =
    let written = over content buffer in
    record { result = result_after n count; buffer = cond (eqb n 0) written buffer }

-- A text, "with its length".
abbrev pub text_after : ℕ → List ℕ → List ℕ → TextOut
text_after n text buffer = buffer_after n (length text) text buffer

abbrev pub line_tests : Sheet → ℕ → List ℕ → List Test
line_tests s n buffer =
    test11 s ∷ test12 s ∷ test13_plan s ∷ test13_numbers s ∷ test13_drawing s ∷ test7_line s n ∷ test14 (line_of s n) buffer ∷ []

-- "Line n gives the n-th report line, its LF included".
unfoldable pub line : Sheet → ℕ → List ℕ → TextOut
line s n buffer = text_after (first_refusal (line_tests s n buffer)) (line_of s n) buffer

abbrev pub report_tests : Sheet → List ℕ → List Test
report_tests s buffer = test11 s ∷ test12 s ∷ test13_plan s ∷ test13_numbers s ∷ test13_drawing s ∷ test14 (report_of s) buffer ∷ []

unfoldable pub report : Sheet → List ℕ → TextOut
report s buffer = text_after (first_refusal (report_tests s buffer)) (report_of s) buffer

-- ---- the text as it was read, by line and whole
abbrev pub text_line_tests : Sheet → ℕ → List ℕ → List Test
text_line_tests s n buffer =
    test11 s ∷ test15 s ∷ test13_plan s ∷ test13_numbers s ∷ test7_text s n ∷ test14 (text_line_of s n) buffer ∷ []

-- "from a sheet loaded that way, line n of the plan text as it was read, byte for byte, drawn or not"
unfoldable pub text_line : Sheet → ℕ → List ℕ → TextOut
text_line s n buffer = text_after (first_refusal (text_line_tests s n buffer)) (text_line_of s n) buffer

abbrev pub whole_text_tests : Sheet → List ℕ → List Test
whole_text_tests s buffer = test11 s ∷ test15 s ∷ test13_plan s ∷ test13_numbers s ∷ test14 (whole_text_of s) buffer ∷ []

unfoldable pub whole_text : Sheet → List ℕ → TextOut
whole_text s buffer = text_after (first_refusal (whole_text_tests s buffer)) (whole_text_of s) buffer

-- ---- mark, and all marks
abbrev pub mark_tests : Sheet → ℕ → List Test
mark_tests s n = test11 s ∷ test12 s ∷ test13_plan s ∷ test13_numbers s ∷ test13_drawing s ∷ test7_mark s n ∷ []

-- "Mark n gives the n-th mark."
unfoldable pub mark : Sheet → ℕ → Verdict Mark
mark s n = result_after (first_refusal (mark_tests s n)) (mark_of (plan_in s) (drawing_in s).final n)

abbrev pub marks_tests : Sheet → List Float → List Test
marks_tests s buffer = test11 s ∷ test12 s ∷ test13_plan s ∷ test13_numbers s ∷ test13_drawing s ∷ test14 (numbers_of s) buffer ∷ []

-- All marks in a lent buffer, five numbers each, with how many there are; later numbers stay.
unfoldable pub marks : Sheet → List Float → BufferOut Float
marks s buffer = buffer_after (first_refusal (marks_tests s buffer)) (marks_in s) (numbers_of s) buffer

-- ---- clear: "Clear empties."
unfoldable pub clear : Sheet → SheetOut
clear s = sheet_out (gives tt) empty_sheet

-- ---- the promises
pub record Leaves (o : SheetOut) (a : Result Unit Refusal) (s : Sheet) : Type 0 where
  pub answered : verdict_of a ≡ o.result
  pub left : s ≡ o.sheet

-- Draw's promise has demand 3 of the sheet that it leaves: "It speaks of every draw that is not refused, of a sheet just loaded
-- or of one handed in."
pub record Draws (s : Sheet) (a : Result Unit Refusal) (t : Sheet) : Type 0 where
  pub leaves : Leaves (draw s) a t
  pub demand3 : a ≡ Ok tt → Demand3 (plan_in t) (drawing_in t)

-- Mark's promise says besides which numbers the mark has that is given: exactly those of the n-th mark in whole numbers.
pub record GivesMark (s : Sheet) (n : ℕ) (a : Result Mark Refusal) : Type 0 where
  pub answered : verdict_of a ≡ mark s n
  pub exact : (m : Mark) → a ≡ Ok m → ExactMark (whole_mark_of (plan_in s) (drawing_in s).final n) m

pub record Writes {A : Type 0} (o : BufferOut A) (a : Result ℕ Refusal) (buffer : List A) : Type 0 where
  pub answered : verdict_of a ≡ o.result
  pub left : buffer ≡ o.buffer

-- And so does that of all marks: each five numbers in the buffer are exactly those of their mark.
pub record WritesMarks (s : Sheet) (buffer : List Float) (a : Result ℕ Refusal) (out : List Float) : Type 0 where
  pub writes : Writes (marks s buffer) a out
  pub exact : (k : ℕ) → a ≡ Ok k → (n : ℕ) → n < k → ExactFive (whole_mark_of (plan_in s) (drawing_in s).final n) (drop (5 * n) out)
