-- When each call is refused and by which number, both ways: it is refused by m exactly if m is the number of the first of its tests that
-- refuses, and gives what it gives exactly if none does. A refusal changes nothing.
use mathlib.Core.Path.{◌≡◌, refl, ◌∙◌}
use mathlib.Core.Bool.{Bool, true, false, cond, not, ◌&&◌}
use mathlib.Core.List.{List, [], ◌∷◌, ◌++◌}
use mathlib.Core.Logic.{◌↔◌}
use Prim.Native.Nat.{ℕ}
use lib.Dec.{eqb}
use lib.ListN.{length}
use lib.Ieee.{Float}
use Rattle.ints.specs.Lists.{over}
use Rattle.ints.specs.Refusals.{Test, first_refusal, is_first, none_refuses, Verdict, gives, refuses}
use Rattle.ints.proofs.Refusals.{lacks, numbered, refused-first, given-none, none-append, first-early, first-late}
use Rattle.plan.specs.Plan.{PlanData}
use Rattle.text.specs.Reading.{Reading, accepted, refused, text_tests, reading, tangled_reading}
use Rattle.text.proofs.Words.{never}
use Rattle.text.proofs.WhenRefused as read
use Rattle.text.proofs.WhenRefused.{read-refused, read-given, tangled_tests}
use Rattle.passes.specs.Drawing.{drawing_of}
use Rattle.marks.specs.Marks.{mark_of}
use Rattle.sheet.specs.declared.types.Stage.{Stage}
use Rattle.sheet.specs.declared.types.Stage.TheVariants.{Empty, Loaded, Drawn}
use Rattle.sheet.specs.declared.types.Sheet.{Sheet}
use Rattle.sheet.specs.Sheet.{is_empty, is_drawn, plan_in, drawing_in, loaded_as_read, loaded_untangled, drawn_sheet}
use Rattle.sheet.specs.Results.{result_after}
use Rattle.sheet.specs.Tests.{test11, test12, test15, holds_plan, test13_plan, holds_numbers, test13_numbers, holds_drawing, test13_drawing, marks_in, line_of, report_of, numbers_of, text_line_of, whole_text_of}
use Rattle.sheet.specs.Calls.{load_of, load, load_tangled, draw_tests, draw, buffer_after, line_tests, line, report_tests, report, text_line_tests, text_line, whole_text_tests, whole_text, mark_tests, mark, marks_tests, marks, clear}

-- ---- the one law, of what a call gives
module _ {A : Type 0} (ts : List Test) (h : numbered ts ≡ true) (a : A) where
  pub refuses-first : (m : ℕ) → (result_after (first_refusal ts) a ≡ refuses m) ↔ (is_first m ts ≡ true)
  refuses-first m = refused-first (gives a) refuses (λ m e. never (cc)) (λ m n e. cc) ts h m

  pub gives_none : (result_after (first_refusal ts) a ≡ gives a) ↔ (none_refuses ts ≡ true)
  gives_none = given-none (gives a) refuses (λ m e. never (cc)) (λ m n e. cc) ts h

-- What a call gives, if it gives something.
pub given : {A : Type 0} (t : Bool) (k : ℕ) (a b : A) → cond t (gives a) (refuses k) ≡ gives b → a ≡ b
given true k a b e = cc
given false k a b e = never (cc)

-- ---- each call
module _ (s : Sheet) where
  pub draw-refused : (m : ℕ) → ((draw s).result ≡ refuses m) ↔ (is_first m (draw_tests s) ≡ true)
  unfolding draw
  draw-refused = refuses-first {A = Unit} (draw_tests s) refl tt

  pub draw-given : ((draw s).result ≡ gives tt) ↔ (none_refuses (draw_tests s) ≡ true)
  unfolding draw
  draw-given = gives_none {A = Unit} (draw_tests s) refl tt

  pub line_refused : (n : ℕ) (b : List ℕ) (m : ℕ) → ((line s n b).result ≡ refuses m) ↔ (is_first m (line_tests s n b) ≡ true)
  unfolding line
  line_refused n b = refuses-first (line_tests s n b) refl (length (line_of s n))

  pub line-given : (n : ℕ) (b : List ℕ) → ((line s n b).result ≡ gives (length (line_of s n))) ↔ (none_refuses (line_tests s n b) ≡ true)
  unfolding line
  line-given n b = gives_none (line_tests s n b) refl (length (line_of s n))

  pub report-refused : (b : List ℕ) (m : ℕ) → ((report s b).result ≡ refuses m) ↔ (is_first m (report_tests s b) ≡ true)
  unfolding report
  report-refused b = refuses-first (report_tests s b) refl (length (report_of s))

  pub report-given : (b : List ℕ) → ((report s b).result ≡ gives (length (report_of s))) ↔ (none_refuses (report_tests s b) ≡ true)
  unfolding report
  report-given b = gives_none (report_tests s b) refl (length (report_of s))

  pub text-line-refused : (n : ℕ) (b : List ℕ) (m : ℕ) → ((text_line s n b).result ≡ refuses m) ↔ (is_first m (text_line_tests s n b) ≡ true)
  unfolding text_line
  text-line-refused n b = refuses-first (text_line_tests s n b) refl (length (text_line_of s n))

  pub text-line-given : (n : ℕ) (b : List ℕ) → ((text_line s n b).result ≡ gives (length (text_line_of s n))) ↔ (none_refuses (text_line_tests s n b) ≡ true)
  unfolding text_line
  text-line-given n b = gives_none (text_line_tests s n b) refl (length (text_line_of s n))

  pub whole-text-refused : (b : List ℕ) (m : ℕ) → ((whole_text s b).result ≡ refuses m) ↔ (is_first m (whole_text_tests s b) ≡ true)
  unfolding whole_text
  whole-text-refused b = refuses-first (whole_text_tests s b) refl (length (whole_text_of s))

  pub whole-text-given : (b : List ℕ) → ((whole_text s b).result ≡ gives (length (whole_text_of s))) ↔ (none_refuses (whole_text_tests s b) ≡ true)
  unfolding whole_text
  whole-text-given b = gives_none (whole_text_tests s b) refl (length (whole_text_of s))

  pub mark-refused : (n m : ℕ) → (mark s n ≡ refuses m) ↔ (is_first m (mark_tests s n) ≡ true)
  unfolding mark
  mark-refused n = refuses-first (mark_tests s n) refl (mark_of (plan_in s) (drawing_in s).final n)

  pub mark-given : (n : ℕ) → (mark s n ≡ gives (mark_of (plan_in s) (drawing_in s).final n)) ↔ (none_refuses (mark_tests s n) ≡ true)
  unfolding mark
  mark-given n = gives_none (mark_tests s n) refl (mark_of (plan_in s) (drawing_in s).final n)

  pub marks-refused : (b : List Float) (m : ℕ) → ((marks s b).result ≡ refuses m) ↔ (is_first m (marks_tests s b) ≡ true)
  unfolding marks
  marks-refused b = refuses-first (marks_tests s b) refl (marks_in s)

  pub marks-given : (b : List Float) → ((marks s b).result ≡ gives (marks_in s)) ↔ (none_refuses (marks_tests s b) ≡ true)
  unfolding marks
  marks-given b = gives_none (marks_tests s b) refl (marks_in s)

  pub clear-given : (clear s).result ≡ gives tt
  unfolding clear
  clear-given = refl

  -- load is refused as its text is read
  unread : (f : PlanData → Sheet) (r : Reading) (m : ℕ) → ((load_of f s r).result ≡ refuses m) ↔ (r ≡ refused m)
  unread f (accepted p) m = (λ e. never (cc), λ e. never (cc))
  unread f (refused n) m = (λ e. cc, λ e. cc)

  pub load-refused : (text : List ℕ) (m : ℕ) → ((load s text).result ≡ refuses m) ↔ (is_first m (text_tests text) ≡ true)
  unfolding load
  load-refused text m = let u = unread loaded_as_read (reading text) m in let r = read-refused text m in (λ e. r.0 (u.0 e), λ e. u.1 (r.1 e))

  -- by the second way with 1 to 5 alone
  pub tangled-refused : (text : List ℕ) (m : ℕ) → ((load_tangled s text).result ≡ refuses m) ↔ (is_first m (tangled_tests text) ≡ true)
  unfolding load_tangled
  tangled-refused text m = let u = unread loaded_untangled (tangled_reading text) m in let r = read.tangled-refused text m in (λ e. r.0 (u.0 e), λ e. u.1 (r.1 e))

  taken : (f : PlanData → Sheet) (r : Reading) → ((load_of f s r).result ≡ gives tt) ↔ ((p : PlanData) × (r ≡ accepted p))
  taken f (accepted p) = (λ e. (p, refl), λ e. refl)
  taken f (refused n) = (λ e. never (cc), λ e. never (cc e.1))

  pub load_read : (text : List ℕ) → ((load s text).result ≡ gives tt) ↔ ((p : PlanData) × (reading text ≡ accepted p))
  unfolding load
  load_read text = taken loaded_as_read (reading text)

  pub tangled-read : (text : List ℕ) → ((load_tangled s text).result ≡ gives tt) ↔ ((p : PlanData) × (tangled_reading text ≡ accepted p))
  unfolding load_tangled
  tangled-read text = taken loaded_untangled (tangled_reading text)

  pub load_given : (text : List ℕ) → ((load s text).result ≡ gives tt) ↔ (none_refuses (text_tests text) ≡ true)
  load_given text = let l = load_read text in let r = read-given text in (λ e. r.0 (l.0 e), λ e. l.1 (r.1 e))

  -- a tangled load "is accepted" exactly if checks 1 to 5 pass
  pub tangled-given : (text : List ℕ) → ((load_tangled s text).result ≡ gives tt) ↔ (none_refuses (tangled_tests text) ≡ true)
  tangled-given text = let l = tangled-read text in let r = read.tangled-given text in (λ e. r.0 (l.0 e), λ e. l.1 (r.1 e))

-- ---- what that says, number by number, of the calls that show a sheet: all begin with the same tests
abbrev pub is_loaded : Stage → Bool
is_loaded Empty = false
is_loaded (Loaded v e) = true
is_loaded (Drawn v e k) = false

-- A sheet that is drawn, and not refused by 13.
abbrev pub can_show : Sheet → Bool
can_show s = is_drawn s.header.stage && holds_plan s && holds_numbers s && holds_drawing s

abbrev pub show_tests : Sheet → List Test
show_tests s = test11 s ∷ test12 s ∷ test13_plan s ∷ test13_numbers s ∷ test13_drawing s ∷ []

module _ (s : Sheet) where
  begin-11 : (t : Stage) (c n d : Bool)
      → cond (is_empty t) true (cond (not (is_drawn t)) false (cond (not c) false (cond (not n) false (cond (not d) false false)))) ≡ is_empty t
  begin-11 Empty c n d = refl
  begin-11 (Loaded v e) c n d = refl
  begin-11 (Drawn v e k) false n d = refl
  begin-11 (Drawn v e k) true false d = refl
  begin-11 (Drawn v e k) true true false = refl
  begin-11 (Drawn v e k) true true true = refl

  begin-12 : (t : Stage) (c n d : Bool)
      → cond (is_empty t) false (cond (not (is_drawn t)) true (cond (not c) false (cond (not n) false (cond (not d) false false)))) ≡ is_loaded t
  begin-12 Empty c n d = refl
  begin-12 (Loaded v e) c n d = refl
  begin-12 (Drawn v e k) false n d = refl
  begin-12 (Drawn v e k) true false d = refl
  begin-12 (Drawn v e k) true true false = refl
  begin-12 (Drawn v e k) true true true = refl

  begin-13 : (t : Stage) (c n d : Bool)
      → cond (is_empty t) false (cond (not (is_drawn t)) false (cond (not c) true (cond (not n) true (cond (not d) true false)))) ≡ (is_drawn t && not (c && n && d))
  begin-13 Empty c n d = refl
  begin-13 (Loaded v e) c n d = refl
  begin-13 (Drawn v e k) false n d = refl
  begin-13 (Drawn v e k) true false d = refl
  begin-13 (Drawn v e k) true true false = refl
  begin-13 (Drawn v e k) true true true = refl

  begin-none : (t : Stage) (c n d : Bool)
      → cond (is_empty t) false (cond (not (is_drawn t)) false (cond (not c) false (cond (not n) false (cond (not d) false true)))) ≡ (is_drawn t && c && n && d)
  begin-none Empty c n d = refl
  begin-none (Loaded v e) c n d = refl
  begin-none (Drawn v e k) false n d = refl
  begin-none (Drawn v e k) true false d = refl
  begin-none (Drawn v e k) true true false = refl
  begin-none (Drawn v e k) true true true = refl

  shown : none_refuses (show_tests s) ≡ can_show s
  unfolding none_refuses
  shown = begin-none s.header.stage (holds_plan s) (holds_numbers s) (holds_drawing s)

  module _ (more : List Test) where
    pub shows-11 : lacks 11 more ≡ true → is_first 11 (show_tests s ++ more) ≡ is_empty s.header.stage
    unfolding is_first
    shows-11 h = first-early 11 (show_tests s) more h ∙ begin-11 s.header.stage (holds_plan s) (holds_numbers s) (holds_drawing s)

    pub shows-12 : lacks 12 more ≡ true → is_first 12 (show_tests s ++ more) ≡ is_loaded s.header.stage
    unfolding is_first
    shows-12 h = first-early 12 (show_tests s) more h ∙ begin-12 s.header.stage (holds_plan s) (holds_numbers s) (holds_drawing s)

    pub shows-13 : lacks 13 more ≡ true → is_first 13 (show_tests s ++ more) ≡ (is_drawn s.header.stage && not (holds_plan s && holds_numbers s && holds_drawing s))
    unfolding is_first
    shows-13 h = first-early 13 (show_tests s) more h ∙ begin-13 s.header.stage (holds_plan s) (holds_numbers s) (holds_drawing s)

    -- 7 and 14, and what is given
    pub shows_later : (m : ℕ) → lacks m (show_tests s) ≡ true → is_first m (show_tests s ++ more) ≡ (can_show s && is_first m more)
    shows_later m h = first-late m (show_tests s) more h ∙ rw shown

    pub shows-given : none_refuses (show_tests s ++ more) ≡ (can_show s && none_refuses more)
    shows-given = none-append (show_tests s) more ∙ rw shown

-- ---- the same of the calls that give the text: 11, 15 and 13 before all else
-- A sheet that was loaded by E1's way, drawn or not, and not refused by 13.
abbrev pub can_give_back : Sheet → Bool
can_give_back s = not (is_empty s.header.stage) && s.header.tangled && holds_plan s && holds_numbers s

abbrev pub back_tests : Sheet → List Test
back_tests s = test11 s ∷ test15 s ∷ test13_plan s ∷ test13_numbers s ∷ []

module _ (s : Sheet) where
  back-11 : (t w c n : Bool) → cond t true (cond (not w) false (cond (not c) false (cond (not n) false false))) ≡ t
  back-11 true w c n = refl
  back-11 false false c n = refl
  back-11 false true false n = refl
  back-11 false true true false = refl
  back-11 false true true true = refl

  back-15 : (t w c n : Bool) → cond t false (cond (not w) true (cond (not c) false (cond (not n) false false))) ≡ (not t && not w)
  back-15 true w c n = refl
  back-15 false false c n = refl
  back-15 false true false n = refl
  back-15 false true true false = refl
  back-15 false true true true = refl

  back-13 : (t w c n : Bool) → cond t false (cond (not w) false (cond (not c) true (cond (not n) true false))) ≡ (not t && w && not (c && n))
  back-13 true w c n = refl
  back-13 false false c n = refl
  back-13 false true false n = refl
  back-13 false true true false = refl
  back-13 false true true true = refl

  back_none : (t w c n : Bool) → cond t false (cond (not w) false (cond (not c) false (cond (not n) false true))) ≡ (not t && w && c && n)
  back_none true w c n = refl
  back_none false false c n = refl
  back_none false true false n = refl
  back_none false true true false = refl
  back_none false true true true = refl

  abbrev stands : Bool
  stands = is_empty s.header.stage

  backed : none_refuses (back_tests s) ≡ can_give_back s
  unfolding none_refuses
  backed = back_none stands s.header.tangled (holds_plan s) (holds_numbers s)

  module _ (more : List Test) where
    pub backs-11 : lacks 11 more ≡ true → is_first 11 (back_tests s ++ more) ≡ is_empty s.header.stage
    unfolding is_first
    backs-11 h = first-early 11 (back_tests s) more h ∙ back-11 stands s.header.tangled (holds_plan s) (holds_numbers s)

    -- 15 "comes after 11 and before 13"
    pub backs-15 : lacks 15 more ≡ true → is_first 15 (back_tests s ++ more) ≡ (not (is_empty s.header.stage) && not s.header.tangled)
    unfolding is_first
    backs-15 h = first-early 15 (back_tests s) more h ∙ back-15 stands s.header.tangled (holds_plan s) (holds_numbers s)

    pub backs-13 : lacks 13 more ≡ true → is_first 13 (back_tests s ++ more) ≡ (not (is_empty s.header.stage) && s.header.tangled && not (holds_plan s && holds_numbers s))
    unfolding is_first
    backs-13 h = first-early 13 (back_tests s) more h ∙ back-13 stands s.header.tangled (holds_plan s) (holds_numbers s)

    -- 7 and 14, and what is given
    pub backs-later : (m : ℕ) → lacks m (back_tests s) ≡ true → is_first m (back_tests s ++ more) ≡ (can_give_back s && is_first m more)
    backs-later m h = first-late m (back_tests s) more h ∙ rw backed

    pub backs-given : none_refuses (back_tests s ++ more) ≡ (can_give_back s && none_refuses more)
    backs-given = none-append (back_tests s) more ∙ rw backed

-- ---- a refusal changes nothing
buffer-kept : {A : Type 0} (k m n : ℕ) (w b : List A) → (buffer_after k n w b).result ≡ refuses m → (buffer_after k n w b).buffer ≡ b
buffer-kept k m n w b = by (eqb k 0)
  where
    by : (t : Bool) → cond t (gives n) (refuses k) ≡ refuses m → cond t (over w b) b ≡ b
    by true e = never (cc)
    by false e = refl

pub line_kept : (s : Sheet) (n m : ℕ) (b : List ℕ) → (line s n b).result ≡ refuses m → (line s n b).buffer ≡ b
unfolding line
line_kept s n m b = buffer-kept (first_refusal (line_tests s n b)) m (length (line_of s n)) (line_of s n) b

pub report-kept : (s : Sheet) (m : ℕ) (b : List ℕ) → (report s b).result ≡ refuses m → (report s b).buffer ≡ b
unfolding report
report-kept s m b = buffer-kept (first_refusal (report_tests s b)) m (length (report_of s)) (report_of s) b

pub text-line-kept : (s : Sheet) (n m : ℕ) (b : List ℕ) → (text_line s n b).result ≡ refuses m → (text_line s n b).buffer ≡ b
unfolding text_line
text-line-kept s n m b = buffer-kept (first_refusal (text_line_tests s n b)) m (length (text_line_of s n)) (text_line_of s n) b

pub whole-text-kept : (s : Sheet) (m : ℕ) (b : List ℕ) → (whole_text s b).result ≡ refuses m → (whole_text s b).buffer ≡ b
unfolding whole_text
whole-text-kept s m b = buffer-kept (first_refusal (whole_text_tests s b)) m (length (whole_text_of s)) (whole_text_of s) b

pub marks-kept : (s : Sheet) (m : ℕ) (b : List Float) → (marks s b).result ≡ refuses m → (marks s b).buffer ≡ b
unfolding marks
marks-kept s m b = buffer-kept (first_refusal (marks_tests s b)) m (marks_in s) (numbers_of s) b

pub draw-kept : (s : Sheet) (m : ℕ) → (draw s).result ≡ refuses m → (draw s).sheet ≡ s
unfolding draw
draw-kept s m = by (eqb (first_refusal (draw_tests s)) 0)
  where
    by : (t : Bool) → ◌≡◌ {A = Verdict Unit} (cond t (gives tt) (refuses (first_refusal (draw_tests s)))) (refuses m)
        → cond t (drawn_sheet s (drawing_of (plan_in s))) s ≡ s
    by true e = never (cc)
    by false e = refl

unread-kept : (f : PlanData → Sheet) (s : Sheet) (m : ℕ) (r : Reading) → (load_of f s r).result ≡ refuses m → (load_of f s r).sheet ≡ s
unread-kept f s m (accepted p) e = never (cc)
unread-kept f s m (refused n) e = refl

pub load_kept : (s : Sheet) (text : List ℕ) (m : ℕ) → (load s text).result ≡ refuses m → (load s text).sheet ≡ s
unfolding load
load_kept s text m = unread-kept loaded_as_read s m (reading text)

pub tangled-kept : (s : Sheet) (text : List ℕ) (m : ℕ) → (load_tangled s text).result ≡ refuses m → (load_tangled s text).sheet ≡ s
unfolding load_tangled
tangled-kept s text m = unread-kept loaded_untangled s m (tangled_reading text)
