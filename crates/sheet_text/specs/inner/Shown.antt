-- What the inner functions promise. They take the parts of a sheet that they need.
use Rattle.std.specs.Prelude.{Bool, List, [], ◌∷◌, ℕ, ◌+◌, ltb}
use Rattle.ints.specs.Refusals.{test, check, first_refusal}
use Rattle.plan.specs.declared.data.Plan.{Plan}
use Rattle.report.specs.declared.data.Counts.{Counts}
use Rattle.text_write.specs.inner.Data.{line_of}
use Rattle.sheet_data.specs.inner.Parts.{is_plan_with, are_own_with}
use Rattle.sheet.specs.declared.types.Stage.{Stage}
use Rattle.sheet.specs.Sheet.{is_empty}
use Rattle.sheet.specs.Tests.{test14}
use Rattle.sheet.specs.Calls.{TextOut, text_after}
use Rattle.sheet.specs.inner.Refusals.{counts_in}
use Rattle.sheet_text.specs.inner.Read.{read_with}

-- The number by which the text is refused before 7 and 14, 0 if it is not.
unfoldable pub text_refusal : Stage → Bool → Plan → List ℕ → ℕ
text_refusal t tangled p m =
    first_refusal (test 11 (is_empty t) ∷ check 15 tangled ∷ check 13 (is_plan_with p (counts_in t)) ∷ check 13 (are_own_with p m (counts_in t)) ∷ [])

-- How many lines there are, and what is left of the call by line where it is not refused from the state.
abbrev pub text_lines : Plan → Counts → ℕ
text_lines p c = p.levels + c.segments + 2

unfoldable pub text_line_from : Plan → List ℕ → Counts → ℕ → List ℕ → TextOut
text_line_from p m c n buffer =
    let text = line_of (read_with p m c) n in
    text_after (first_refusal (check 7 (ltb n (text_lines p c)) ∷ test14 text buffer ∷ [])) text buffer
