-- What the inner functions promise. They take the parts of a sheet that they need.
use Rattle.std.specs.Prelude.{List, [], ◌∷◌, ℕ, ltb, Float}
use Rattle.ints.specs.Refusals.{check, first_refusal, Verdict}
use Rattle.plan.specs.declared.data.Plan.{Plan}
use Rattle.marks.specs.declared.types.Mark.{Mark}
use Rattle.report.specs.declared.data.Drawing.{Drawing as Arrays}
use Rattle.report.specs.declared.data.Counts.{Counts}
use Rattle.sheet_data.specs.inner.Parts.{lines_of, line_with, marks_of, mark_with, numbers_with}
use Rattle.sheet.specs.Results.{result_after}
use Rattle.sheet.specs.Tests.{test14}
use Rattle.sheet.specs.Calls.{BufferOut, TextOut, text_after}
use Rattle.sheet_fit.specs.inner.Fitted.{fitted}

-- What is left of line, report, mark and marks where they are not refused from the state.
unfoldable pub line_from : Plan → List ℕ → Arrays → Counts → ℕ → List ℕ → TextOut
line_from p m d c n buffer =
    let text = line_with p m d c n in
    text_after (first_refusal (check 7 (ltb n (lines_of c)) ∷ test14 text buffer ∷ [])) text buffer

unfoldable pub mark_from : Plan → Arrays → Counts → ℕ → Verdict Mark
mark_from p d c n = result_after (first_refusal (check 7 (ltb n (marks_of c)) ∷ [])) (mark_with p d c n)

abbrev pub marks_from : Plan → Arrays → Counts → List Float → BufferOut Float
marks_from p d c buffer = fitted (marks_of c) (numbers_with p d c) buffer
