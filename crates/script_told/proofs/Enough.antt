-- `lines`, `texts` and `marks` go up to a refusal: a sheet that shows anything has at most 1,024 + 2,048 + 2 lines, a text of at most
-- 64 + 2,048 + 2 lines, and 1,024 + 2,048 marks, so the last of their answers is a refusal, and no other is.
use mathlib.Core.Path.{◌≡◌, refl, sym, ◌∙◌}
use mathlib.Core.Bool.{Bool, true, false, cond, ◌&&◌}
use mathlib.Core.List.{List, [], ◌∷◌}
use Prim.Native.Nat.{ℕ, zero, suc, ◌+◌, ◌≤◌, ◌<◌}
use native.Mathlib.Omega.{arith}
use borrow.Author.Tests.{le-ltb, not-false}
use lib.ListN.{length, replicate}
use Rattle.ints.specs.Refusals.{Verdict, gives, refuses, Test, none_refuses}
use Rattle.ints.proofs.Laws.{cases}
use Rattle.ints.proofs.Tests.{test, conj-at, and-false}
use Rattle.ints.proofs.Refusals.{none-0, none-at, none-append}
use Rattle.text.proofs.Words.{never}
use Rattle.marks.specs.Marks.{WholeMark}
use Rattle.report_validity.proofs.Stored.{stored_of}
use Rattle.sheet_data.specs.inner.Parts.{Holds}
use Rattle.sheet_data.proofs.Rooms.{few}
use Rattle.sheet.specs.declared.types.Sheet.{Sheet}
use Rattle.sheet.specs.Sheet.{is_drawn, vertices_in, segments_in}
use Rattle.sheet.specs.Tests.{holds_plan, holds_numbers, holds_drawing, lines_in, test7_line, marks_in, test7_mark, text_lines_in, test7_text, test14, line_of, text_line_of}
use Rattle.sheet.specs.Calls as sheet
use Rattle.sheet.specs.Calls.{line_tests, text_line_tests, mark_tests}
use Rattle.sheet.specs.inner.Refusals.{counts_in}
use Rattle.sheet.proofs.WhenRefused.{can_show, shows-given, back_tests}
use Rattle.calls.specs.declared.types.Call.{Call}
use Rattle.calls.specs.declared.types.Call.TheVariants.{Line, TextLine, Mark}
use Rattle.calls.specs.Replies as value
use Rattle.calls.specs.Replies.{Value, written, marked}
use Rattle.calls.specs.Step.{Lent, step}
use Rattle.script_commands.specs.Commands.{Command, skip, unknown, load, load_tangled, draw, clear, stage, line, lines, text_line, texts, mark, marks, walk, place_run, poke}
use Rattle.script_commands.specs.Table.{long_enough}
use Rattle.script_answers.specs.Answers.{Said}
use Rattle.script_calls.specs.Said.{value_said, result_said, call_said, is_refusal}
use Rattle.script_told.specs.Turns.{lending, is_refused, up_to_refusal, most_answers, line_said, text_said, mark_said, turn_of}
use Rattle.script_told.proofs.Goes.{most}

-- ---- an answer is a refusal where the call refuses
refused-value : (w : WholeMark) (b : List ℕ) (v : Value) → is_refused (value_said w b v) ≡ false
refused-value w b value.done = refl
refused-value w b (written n) = refl
refused-value w b (marked m) = refl

refused-result : (w : WholeMark) (b : List ℕ) (r : Verdict Value) → is_refused (result_said w b r) ≡ is_refusal r
refused-result w b (gives v) = refused-value w b v
refused-result w b (refuses n) = refl

pub refused-said : (q : Call) (l : Lent) (s : Sheet) → is_refused (call_said q l s) ≡ is_refusal (step q l s).result
unfolding call_said
refused-said q l s = refused-result _ (step q l s).buffer (step q l s).result

-- ---- up to a refusal
-- The last is a refusal, and none before it.
unfoldable pub ends_refused : List Said → Bool
ends_refused [] = false
ends_refused (a ∷ []) = is_refused a
ends_refused (a ∷ b ∷ more) = cond (is_refused a) false (ends_refused (b ∷ more))

module _ (f : ℕ → Said) where
  other : (k n : ℕ) → is_refused (f k) ≡ false → is_refused (f n) ≡ true → n ≡ k → ⊥
  other k n h e z = never (sym h ∙ (rw z at e))

  ends : (m k n : ℕ) → k ≤ n → n < k + m → is_refused (f n) ≡ true → ends_refused (up_to_refusal f k m) ≡ true
  unfolding ends_refused up_to_refusal
  ends zero k n l u e = absurd (omega arith)
  ends (suc zero) k n l u e = test (is_refused (f k)) (λ h. rw h h) (λ h. absurd (other k n h e (omega arith)))
  ends (suc (suc m)) k n l u e =
      test (is_refused (f k))
      (λ h. rw h h)
      (λ h.
      let later : suc k ≤ n = cases n k (λ p. absurd (other k n h e (omega arith))) (λ p. omega arith) in
      rw (h, h) (ends (suc m) (suc k) n later (omega arith) e))

module _ (s : Sheet) where
  holds : can_show s ≡ true → Holds s.plan s.drawing (counts_in s.header.stage)
  holds h = let at = conj-at (is_drawn s.header.stage) (holds_plan s ∷ holds_numbers s ∷ holds_drawing s ∷ []) h in
      record { plan = at 1; drawing = at 3 }

  -- ---- lines
  abbrev line_more : ℕ → List Test
  line_more n = test7_line s n ∷ test14 (line_of s n) (replicate long_enough 0) ∷ []

  line-stops : (n : ℕ) → (can_show s && none_refuses (line_more n)) ≡ false → is_refused (line_said s n) ≡ true
  unfolding step sheet.line
  line-stops n h =
      let none = shows-given s (line_more n) ∙ h in
      refused-said (Line n) (lending [] long_enough) s ∙ rw (none-0 (line_tests s n (replicate long_enough 0)) refl, none)

  past-lines : none_refuses (line_more (lines_in s)) ≡ false
  unfolding none_refuses
  past-lines = rw (le-ltb (lines_in s) (lines_in s) (omega arith))

  pub lines_end : ends_refused (up_to_refusal (line_said s) 0 most_answers) ≡ true
  lines_end =
      test (can_show s)
      (λ h.
      let few = few s.plan s.drawing (counts_in s.header.stage) (holds h) in
      ends (line_said s) most_answers 0 (lines_in s) (omega arith) (omega (arith, few.vertices, few.placings))
      (line-stops (lines_in s) (rw past-lines (and-false (can_show s)))))
      (λ h. ends (line_said s) most_answers 0 0 (omega arith) (omega arith) (line-stops 0 (rw h)))

  -- ---- lines of the text
  abbrev text_more : ℕ → List Test
  text_more n = test7_text s n ∷ test14 (text_line_of s n) (replicate long_enough 0) ∷ []

  text-stops : (n : ℕ) → (none_refuses (back_tests s) && none_refuses (text_more n)) ≡ false → is_refused (text_said s n) ≡ true
  unfolding step sheet.text_line
  text-stops n h =
      let none = none-append (back_tests s) (text_more n) ∙ h in
      refused-said (TextLine n) (lending [] long_enough) s ∙ rw (none-0 (text_line_tests s n (replicate long_enough 0)) refl, none)

  past-texts : none_refuses (text_more (text_lines_in s)) ≡ false
  unfolding none_refuses
  past-texts = rw (le-ltb (text_lines_in s) (text_lines_in s) (omega arith))

  pub texts-end : ends_refused (up_to_refusal (text_said s) 0 most_answers) ≡ true
  texts-end =
      test (none_refuses (back_tests s))
      (λ h.
      let held = stored_of s.plan (vertices_in s.header.stage) (segments_in s.header.stage) (not-false (holds_plan s) (none-at (back_tests s) h 2)) in
      ends (text_said s) most_answers 0 (text_lines_in s) (omega arith) (omega (arith, held.levels, held.segments))
      (text-stops (text_lines_in s) (rw past-texts (and-false (none_refuses (back_tests s))))))
      (λ h. ends (text_said s) most_answers 0 0 (omega arith) (omega arith) (text-stops 0 (rw h)))

  -- ---- marks
  abbrev mark_more : ℕ → List Test
  mark_more n = test7_mark s n ∷ []

  mark-stops : (n : ℕ) → (can_show s && none_refuses (mark_more n)) ≡ false → is_refused (mark_said s n) ≡ true
  unfolding step sheet.mark
  mark-stops n h =
      let none = shows-given s (mark_more n) ∙ h in
      refused-said (Mark n) (lending [] 0) s ∙ rw (none-0 (mark_tests s n) refl, none)

  past-marks : none_refuses (mark_more (marks_in s)) ≡ false
  unfolding none_refuses
  past-marks = rw (le-ltb (marks_in s) (marks_in s) (omega arith))

  pub marks-end : ends_refused (up_to_refusal (mark_said s) 0 most_answers) ≡ true
  marks-end =
      test (can_show s)
      (λ h.
      let few = few s.plan s.drawing (counts_in s.header.stage) (holds h) in
      ends (mark_said s) most_answers 0 (marks_in s) (omega arith) (omega (arith, few.vertices, few.segments))
      (mark-stops (marks_in s) (rw past-marks (and-false (can_show s)))))
      (λ h. ends (mark_said s) most_answers 0 0 (omega arith) (omega arith) (mark-stops 0 (rw h)))

-- ---- no command has more answers
pub few-answers : (c : Command) (s : Sheet) → length (turn_of c s).said ≤ most_answers
unfolding turn_of
few-answers skip s = omega arith
few-answers unknown s = omega arith
few-answers (load t) s = omega arith
few-answers (load_tangled t) s = omega arith
few-answers draw s = omega arith
few-answers clear s = omega arith
few-answers stage s = omega arith
few-answers (line n room) s = omega arith
few-answers lines s = most (line_said s) 0 most_answers
few-answers (text_line n room) s = omega arith
few-answers texts s = most (text_said s) 0 most_answers
few-answers (mark n) s = omega arith
few-answers marks s = most (mark_said s) 0 most_answers
few-answers (walk l t) s = omega arith
few-answers (place_run q room) s = omega arith
few-answers (poke p) s = omega arith
