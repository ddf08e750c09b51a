-- What is said of a line, of the report or of the text as it was read: every buffer that is long enough has the same answer, since no
-- line of a sheet that can show is longer.
use mathlib.Core.Path.{◌≡◌, sym, ◌∙◌}
use mathlib.Core.Bool.{true, cond}
use mathlib.Core.List.{List, [], ◌∷◌}
use Prim.Native.Nat.{ℕ, ◌≤◌, min}
use native.Mathlib.Omega.{arith}
use borrow.Author.Tests.{le-ltb}
use lib.Dec.{leb, eqb}
use lib.ListN.{length, take, replicate, length-replicate}
use Rattle.ints.specs.Lists.{sum}
use Rattle.ints.specs.Refusals.{Test, first_refusal}
use Rattle.ints.proofs.Laws.{cases}
use Rattle.ints.proofs.Tests.{test, conj-at}
use Rattle.plan_renumber.proofs.Own.{own}
use Rattle.passes.specs.Words.{max_listed}
use Rattle.passes.proofs.Sound.{sound}
use Rattle.report.specs.Refusal13.{is_drawing, is_drawing_in}
use Rattle.report_validity.proofs.Stored.{stored_of}
use Rattle.report_lines.specs.inner.Stored.{max_line}
use Rattle.report_lines.proofs.Lengths.{line-short}
use Rattle.report_lines.proofs.Printable.{printable, printable-by}
use Rattle.marks.specs.Marks.{whole_mark_of}
use Rattle.sheet.specs.declared.types.Sheet.{Sheet}
use Rattle.sheet.specs.Sheet.{vertices_in, segments_in, placings_in, plan_in, drawing_in, remembered_in}
use Rattle.sheet.specs.Tests.{holds_plan, holds_numbers, holds_drawing, line_of as line_in, text_line_of}
use Rattle.sheet.specs.Calls as sheet
use Rattle.sheet.specs.Calls.{line_tests, text_line_tests}
use Rattle.sheet_text.proofs.PlanRead.{text-line-short}
use Rattle.calls.specs.declared.types.Call.{Call}
use Rattle.calls.specs.declared.types.Call.TheVariants.{Line, TextLine}
use Rattle.calls.specs.Step.{Lent, step}
use Rattle.script_commands.specs.Table.{long_enough}
use Rattle.script_answers.specs.Answers.{refused, text}
use Rattle.script_calls.specs.Said.{call_said}
use Rattle.script_calls.proofs.Commands.{written-said}
use Rattle.script_told.specs.Turns.{lending}

-- ---- buffers of zeros
abbrev pub zeros : ℕ → List ℕ
zeros n = replicate n 0

pub zeros-long : (n : ℕ) → length (zeros n) ≡ n
zeros-long n = length-replicate {A = ℕ} n 0

-- ---- a call whose text has room in every buffer that is long enough
module _ (s : Sheet) (q : Call) (tests : List ℕ → List Test) (w : List ℕ)
    (says : (l : Lent) → call_said q l s ≡ cond (eqb (first_refusal (tests l.buffer)) 0) (text w) (refused (first_refusal (tests l.buffer))))
    (same : (b c : List ℕ) → max_line ≤ length b → max_line ≤ length c → first_refusal (tests b) ≡ first_refusal (tests c)) where
  pub enough : (room : ℕ) → call_said q (lending [] room) s ≡ call_said q (lending [] (min room long_enough)) s
  enough room =
      cases long_enough room
      (λ h.
      let e : min room long_enough ≡ long_enough = omega arith in
      let k = same (zeros room) (zeros long_enough) (omega (arith, zeros-long room)) (omega (arith, zeros-long long_enough)) in
      rw e (says (lending [] room) ∙ rw k (sym (says (lending [] long_enough)))))
      (λ h. let e : min room long_enough ≡ room = omega arith in rw e)

-- ---- lines of the report
module _ (s : Sheet) (n : ℕ) where
  says : (l : Lent) → call_said (Line n) l s
      ≡ cond (eqb (first_refusal (line_tests s n l.buffer)) 0) (text (line_in s n)) (refused (first_refusal (line_tests s n l.buffer)))
  unfolding call_said step sheet.line
  says l = written-said (whole_mark_of (plan_in s) (drawing_in s).final 0) (first_refusal (line_tests s n l.buffer)) (line_in s n) l.buffer

  short : holds_plan s ≡ true → holds_numbers s ≡ true → holds_drawing s ≡ true → length (line_in s n) ≤ max_line
  unfolding line_in is_drawing_in
  short h o k =
      let v = vertices_in s.header.stage in let e = segments_in s.header.stage in let q = placings_in s.header.stage in
      let t = conj-at (leb q max_listed) (leb (sum (take q s.drawing.counts)) max_listed ∷ is_drawing (plan_in s) (drawing_in s) ∷ []) k in
      let p = (stored_of s.plan v e h).plan in
      line-short (printable-by (own (plan_in s) (remembered_in s) (sound (plan_in s) p).total o).once (printable (plan_in s) (drawing_in s) p (t 2))) n

  same-refusal : (b c : List ℕ) → max_line ≤ length b → max_line ≤ length c → first_refusal (line_tests s n b) ≡ first_refusal (line_tests s n c)
  unfolding first_refusal
  same-refusal b c l m =
      test (holds_plan s)
      (λ h.
      test (holds_numbers s)
      (λ o.
      test (holds_drawing s)
      (λ k.
      let z = short h o k in
      rw (le-ltb (length b) (length (line_in s n)) (omega arith), le-ltb (length c) (length (line_in s n)) (omega arith)))
      (λ k. rw k))
      (λ o. rw o))
      (λ h. rw h)

  pub line-enough : (room : ℕ) → call_said (Line n) (lending [] room) s ≡ call_said (Line n) (lending [] (min room long_enough)) s
  line-enough = enough s (Line n) (line_tests s n) (line_in s n) says same-refusal

-- ---- and of the text
module _ (s : Sheet) (n : ℕ) where
  text_says : (l : Lent) → call_said (TextLine n) l s
      ≡ cond (eqb (first_refusal (text_line_tests s n l.buffer)) 0) (text (text_line_of s n)) (refused (first_refusal (text_line_tests s n l.buffer)))
  unfolding call_said step sheet.text_line
  text_says l = written-said (whole_mark_of (plan_in s) (drawing_in s).final 0) (first_refusal (text_line_tests s n l.buffer)) (text_line_of s n) l.buffer

  same-text-refusal : (b c : List ℕ) → max_line ≤ length b → max_line ≤ length c → first_refusal (text_line_tests s n b) ≡ first_refusal (text_line_tests s n c)
  unfolding first_refusal
  same-text-refusal b c l m =
      test (holds_plan s)
      (λ h.
      test (holds_numbers s)
      (λ o.
      let z = text-line-short s n h o in
      rw (le-ltb (length b) (length (text_line_of s n)) (omega arith), le-ltb (length c) (length (text_line_of s n)) (omega arith)))
      (λ o. rw o))
      (λ h. rw h)

  pub text-enough : (room : ℕ) → call_said (TextLine n) (lending [] room) s ≡ call_said (TextLine n) (lending [] (min room long_enough)) s
  text-enough = enough s (TextLine n) (text_line_tests s n) (text_line_of s n) text_says same-text-refusal
