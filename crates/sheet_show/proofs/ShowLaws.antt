-- What line, report, mark and marks give, as the program meets it: after the tests 11, 12 and 13, which are the same for all, and
-- after 7.
use mathlib.Core.Path.{◌≡◌, refl, sym}
use mathlib.Core.Bool.{true}
use mathlib.Core.List.{List, [], ◌∷◌, ◌++◌}
use Prim.Native.Nat.{ℕ, ◌≤◌, ◌<◌}
use borrow.Author.Tests.{lt-ltb, le-ltb, ne_eqb, not-false}
use lib.ListN.{length}
use lib.Ieee.{Float}
use Rattle.ints.specs.Refusals.{Test, first_refusal, none_refuses, gives, refuses}
use Rattle.ints.proofs.Refusals.{none-at, none_found, refusal-early, refusal-late}
use Rattle.plan.specs.declared.data.Plan.{Plan}
use Rattle.report.specs.declared.data.Drawing.{Drawing as Arrays}
use Rattle.report.specs.declared.data.Counts.{Counts}
use Rattle.sheet_data.specs.inner.Parts.{Holds, are_own_with, lines_of, line_with, report_with, marks_of, mark_with}
use Rattle.sheet.specs.declared.types.Sheet.{Sheet}
use Rattle.sheet.specs.Tests.{holds_plan, holds_numbers, holds_drawing, test7_line, marks_in, test7_mark, test14, line_of, report_of, numbers_of}
use Rattle.sheet.specs.Calls.{buffer_after, line, report, mark, marks}
use Rattle.sheet.specs.inner.Refusals.{counts_in, show_refusal}
use Rattle.sheet.proofs.WhenRefused.{show_tests}
use Rattle.sheet_fit.specs.inner.Fitted.{fitted_text}
use Rattle.sheet_show.specs.inner.Shown.{line_from, mark_from, marks_from}

-- ---- a sheet that they refuse
module _ (s : Sheet) (k : ℕ) (e : k ≡ show_refusal s.header.stage s.plan s.remembered s.drawing) (z : k ≡ 0 → ⊥) where
  refusal : (more : List Test) → first_refusal (show_tests s ++ more) ≡ k
  unfolding show_refusal
  refusal more = sym (refusal-early k (show_tests s) more e z)

  buffer-refused : {A : Type 0} (more : List Test) (n : ℕ) (w b : List A)
      → buffer_after (first_refusal (show_tests s ++ more)) n w b ≡ record { result = refuses k; buffer = b }
  buffer-refused more n w b = rw (refusal more, ne_eqb k 0 z)

  pub line_refused : (n : ℕ) (b : List ℕ) → line s n b ≡ record { result = refuses k; buffer = b }
  unfolding line
  line_refused n b = buffer-refused (test7_line s n ∷ test14 (line_of s n) b ∷ []) (length (line_of s n)) (line_of s n) b

  pub report-refused : (b : List ℕ) → report s b ≡ record { result = refuses k; buffer = b }
  unfolding report
  report-refused b = buffer-refused (test14 (report_of s) b ∷ []) (length (report_of s)) (report_of s) b

  pub mark-refused : (n : ℕ) → mark s n ≡ refuses k
  unfolding mark
  mark-refused n = rw (refusal (test7_mark s n ∷ []), ne_eqb k 0 z)

  pub marks-refused : (b : List Float) → marks s b ≡ record { result = refuses k; buffer = b }
  unfolding marks
  marks-refused b = buffer-refused (test14 (numbers_of s) b ∷ []) (marks_in s) (numbers_of s) b

-- ---- a sheet that they do not refuse
module _ (s : Sheet) (k : ℕ) (e : k ≡ show_refusal s.header.stage s.plan s.remembered s.drawing) (z : k ≡ 0) where
  none : none_refuses (show_tests s) ≡ true
  unfolding show_refusal
  none = none_found k (show_tests s) refl e z

  pub holds : Holds s.plan s.drawing (counts_in s.header.stage)
  holds = record { plan = not-false (holds_plan s) (none-at (show_tests s) none 2); drawing = not-false (holds_drawing s) (none-at (show_tests s) none 4) }

  pub own : are_own_with s.plan s.remembered (counts_in s.header.stage) ≡ true
  own = not-false (holds_numbers s) (none-at (show_tests s) none 3)

  left : (more : List Test) → first_refusal (show_tests s ++ more) ≡ first_refusal more
  left more = sym (refusal-late (first_refusal more) (show_tests s) more none refl)

  pub line-shown : (n : ℕ) (b : List ℕ) → line s n b ≡ line_from s.plan s.remembered s.drawing (counts_in s.header.stage) n b
  unfolding line line_from line_of
  line-shown n b = rw (left (test7_line s n ∷ test14 (line_of s n) b ∷ []))

  pub report-shown : (b : List ℕ) → report s b ≡ fitted_text (report_with s.plan s.remembered s.drawing (counts_in s.header.stage)) b
  unfolding report report_of
  report-shown b = rw (left (test14 (report_of s) b ∷ []))

  pub mark-shown : (n : ℕ) → mark s n ≡ mark_from s.plan s.drawing (counts_in s.header.stage) n
  unfolding mark mark_from
  mark-shown n = rw (left (test7_mark s n ∷ []))

  pub marks-shown : (b : List Float) → marks s b ≡ marks_from s.plan s.drawing (counts_in s.header.stage) b
  unfolding marks numbers_of
  marks-shown b = rw (left (test14 (numbers_of s) b ∷ []))

-- ---- 7
module _ (p : Plan) (d : Arrays) (c : Counts) (n : ℕ) where
  pub no_line : (m b : List ℕ) → lines_of c ≤ n → line_from p m d c n b ≡ record { result = refuses 7; buffer = b }
  unfolding line_from first_refusal
  no_line m b h = rw (le-ltb n (lines_of c) h)

  pub a-line : (m b : List ℕ) → n < lines_of c → line_from p m d c n b ≡ fitted_text (line_with p m d c n) b
  unfolding line_from first_refusal
  a-line m b h = rw (lt-ltb n (lines_of c) h)

  pub no-mark : marks_of c ≤ n → mark_from p d c n ≡ refuses 7
  unfolding mark_from first_refusal
  no-mark h = rw (le-ltb n (marks_of c) h)

  pub a-mark : n < marks_of c → mark_from p d c n ≡ gives (mark_with p d c n)
  unfolding mark_from first_refusal
  a-mark h = rw (lt-ltb n (marks_of c) h)
