-- What the text calls give, as the program meets it: after the tests 11, 15 and 13, which are the same for both, and after 7.
use mathlib.Core.Path.{◌≡◌, refl, sym}
use mathlib.Core.Bool.{Bool, true, false}
use mathlib.Core.List.{List, [], ◌∷◌, ◌++◌}
use Prim.Native.Nat.{ℕ, ◌≤◌, ◌<◌}
use borrow.Author.Tests.{lt-ltb, le-ltb, ne_eqb, not-false}
use lib.ListN.{length}
use Rattle.ints.specs.Refusals.{Test, first_refusal, none_refuses, refuses}
use Rattle.ints.proofs.Refusals.{none-at, none_found, refusal-early, refusal-late}
use Rattle.plan.specs.declared.data.Plan.{Plan}
use Rattle.report.specs.declared.data.Counts.{Counts}
use Rattle.text.specs.Writing.{text_of}
use Rattle.text_write.specs.inner.Data.{line_of}
use Rattle.sheet_data.specs.inner.Parts.{is_plan_with, are_own_with}
use Rattle.sheet.specs.declared.types.Stage.{Stage}
use Rattle.sheet.specs.declared.types.Sheet.{Sheet}
use Rattle.sheet.specs.Sheet.{is_empty}
use Rattle.sheet.specs.Tests.{test11, test15, holds_plan, test13_plan, holds_numbers, test13_numbers, test7_text, test14, plan_as_read, text_line_of, whole_text_of}
use Rattle.sheet.specs.Calls.{buffer_after, text_line, whole_text}
use Rattle.sheet.specs.inner.Refusals.{counts_in, draw_refusal}
use Rattle.sheet_fit.specs.inner.Fitted.{fitted_text}
use Rattle.sheet_text.specs.inner.Read.{read_with}
use Rattle.sheet_text.specs.inner.Shown.{text_refusal, text_lines, text_line_from}

-- ---- 11 and 15
module _ (t : Stage) (b : Bool) (p : Plan) (m : List ℕ) where
  pub refused-11 : is_empty t ≡ true → 11 ≡ text_refusal t b p m
  unfolding text_refusal first_refusal
  refused-11 e = rw e

  pub refused-15 : is_empty t ≡ false → b ≡ false → 15 ≡ text_refusal t b p m
  unfolding text_refusal first_refusal
  refused-15 e f = rw (e, f)

  pub refused-13 : is_empty t ≡ false → b ≡ true → draw_refusal t p m ≡ text_refusal t b p m
  unfolding text_refusal draw_refusal first_refusal
  refused-13 e f = rw (e, f)

-- The tests of both calls from the state.
abbrev text_tests : Sheet → List Test
text_tests s = test11 s ∷ test15 s ∷ test13_plan s ∷ test13_numbers s ∷ []

-- ---- a sheet that they refuse
module _ (s : Sheet) (k : ℕ) (e : k ≡ text_refusal s.header.stage s.header.tangled s.plan s.remembered) (z : k ≡ 0 → ⊥) where
  buffer-refused : (more : List Test) (n : ℕ) (w b : List ℕ)
      → buffer_after (first_refusal (text_tests s ++ more)) n w b ≡ record { result = refuses k; buffer = b }
  unfolding text_refusal
  buffer-refused more n w b = rw (sym (refusal-early k (text_tests s) more e z), ne_eqb k 0 z)

  pub line_refused : (n : ℕ) (b : List ℕ) → text_line s n b ≡ record { result = refuses k; buffer = b }
  unfolding text_line
  line_refused n b = buffer-refused (test7_text s n ∷ test14 (text_line_of s n) b ∷ []) (length (text_line_of s n)) (text_line_of s n) b

  pub whole-refused : (b : List ℕ) → whole_text s b ≡ record { result = refuses k; buffer = b }
  unfolding whole_text
  whole-refused b = buffer-refused (test14 (whole_text_of s) b ∷ []) (length (whole_text_of s)) (whole_text_of s) b

-- ---- a sheet that they do not refuse
module _ (s : Sheet) (k : ℕ) (e : k ≡ text_refusal s.header.stage s.header.tangled s.plan s.remembered) (z : k ≡ 0) where
  none : none_refuses (text_tests s) ≡ true
  unfolding text_refusal
  none = none_found k (text_tests s) refl e z

  pub holds : (is_plan_with s.plan (counts_in s.header.stage) ≡ true) × (are_own_with s.plan s.remembered (counts_in s.header.stage) ≡ true)
  holds = (not-false (holds_plan s) (none-at (text_tests s) none 2), not-false (holds_numbers s) (none-at (text_tests s) none 3))

  left : (more : List Test) → first_refusal (text_tests s ++ more) ≡ first_refusal more
  left more = sym (refusal-late (first_refusal more) (text_tests s) more none refl)

  pub line-shown : (n : ℕ) (b : List ℕ) → text_line s n b ≡ text_line_from s.plan s.remembered (counts_in s.header.stage) n b
  unfolding text_line text_line_from text_line_of plan_as_read
  line-shown n b = rw (left (test7_text s n ∷ test14 (text_line_of s n) b ∷ []))

  pub whole-shown : (b : List ℕ) → whole_text s b ≡ fitted_text (text_of (read_with s.plan s.remembered (counts_in s.header.stage))) b
  unfolding whole_text whole_text_of plan_as_read
  whole-shown b = rw (left (test14 (whole_text_of s) b ∷ []))

-- ---- 7
module _ (p : Plan) (m : List ℕ) (c : Counts) (n : ℕ) (b : List ℕ) where
  pub no_line : text_lines p c ≤ n → text_line_from p m c n b ≡ record { result = refuses 7; buffer = b }
  unfolding text_line_from first_refusal
  no_line h = rw (le-ltb n (text_lines p c) h)

  pub a-line : n < text_lines p c → text_line_from p m c n b ≡ fitted_text (line_of (read_with p m c) n) b
  unfolding text_line_from first_refusal
  a-line h = rw (lt-ltb n (text_lines p c) h)
