-- The marks that a sheet gives are exact: a sheet that shows them is not refused 13, so its numbers are small enough for f64.
-- `PlanArrays` says that the plan's arrays are as long as a stored plan's are.
use mathlib.Core.Path.{◌≡◌, refl, sym, ◌∙◌, ap}
use mathlib.Core.Bool.{Bool, true, false, cond}
use mathlib.Core.List.{List, [], ◌∷◌, ◌++◌}
use Prim.Native.Nat.{ℕ, ◌*◌, ◌<◌}
use native.Mathlib.Omega.{arith}
use lib.Dec.{eqb}
use lib.ListN.{length, drop}
use lib.Ieee.{Float}
use Rattle.ints.specs.Lists.{over}
use Rattle.std.specs.Prelude.{Result}
use Rattle.ints.specs.Refusals.{Test, first_refusal, none_refuses, gives, refuses, verdict_of}
use Rattle.ints.specs.declared.refusal.Refusal.{Refusal}
use Rattle.ints.proofs.Tests.{conj-at}
use Rattle.text.proofs.Words.{never}
use Rattle.marks.specs.declared.types.Mark.{Mark}
use Rattle.marks.specs.Marks.{whole_mark_of, mark_of}
use Rattle.marks.specs.Exact.{ExactMark, ExactFive}
use Rattle.marks.proofs.Exact.{Fits}
use Rattle.sheet_data.specs.inner.Parts.{Holds}
use Rattle.sheet_data.proofs.Cuts.{PlanArrays}
use Rattle.sheet_data.proofs.Rooms as rooms
use Rattle.sheet.specs.declared.types.Sheet.{Sheet}
use Rattle.sheet.specs.Sheet.{is_drawn, plan_in, drawing_in}
use Rattle.sheet.specs.Tests.{holds_plan, holds_numbers, holds_drawing, test7_mark, test14, marks_in, numbers_of}
use Rattle.sheet.specs.Calls.{mark_tests, mark, marks_tests, marks, GivesMark, Writes, WritesMarks}
use Rattle.sheet.specs.inner.Refusals.{counts_in}
use Rattle.sheet.proofs.WhenRefused.{given, show_tests, shows-given, mark-given, marks-given}

module _ (s : Sheet) where
  -- further tests behind those that all of these calls begin with
  shown : (more : List Test) → none_refuses (show_tests s ++ more) ≡ true → Holds s.plan s.drawing (counts_in s.header.stage)
  shown more h =
      let at = conj-at (is_drawn s.header.stage) (holds_plan s ∷ holds_numbers s ∷ holds_drawing s ∷ none_refuses more ∷ []) (sym (shows-given s more) ∙ h) in
      record { plan = at 1; drawing = at 3 }

  module _ (n : ℕ) where
    abbrev the_mark : Mark
    the_mark = mark_of (plan_in s) (drawing_in s).final n

    is-given : (m : Mark) → mark s n ≡ gives m → the_mark ≡ m
    unfolding mark
    is-given m e = given (eqb (first_refusal (mark_tests s n)) 0) (first_refusal (mark_tests s n)) the_mark m e

    mark-shown : (m : Mark) → mark s n ≡ gives m → Holds s.plan s.drawing (counts_in s.header.stage)
    mark-shown m e = shown (test7_mark s n ∷ []) ((mark-given s n).0 (e ∙ ap gives (sym (is-given m e))))

    pub mark-fits : (m : Mark) → mark s n ≡ gives m → Fits (whole_mark_of (plan_in s) (drawing_in s).final n)
    mark-fits m e = rooms.mark-fits s.plan s.drawing (counts_in s.header.stage) (mark-shown m e) n

    pub mark-exact : (m : Mark) → mark s n ≡ gives m → ExactMark (whole_mark_of (plan_in s) (drawing_in s).final n) m
    mark-exact m e = rw (is-given m e) at (rooms.mark-exact s.plan s.drawing (counts_in s.header.stage) (mark-shown m e) n)

    pub gives-mark : {a : Result Mark Refusal} → verdict_of a ≡ mark s n → GivesMark s n a
    gives-mark e = record { answered = e; exact = λ m h. mark-exact m (sym e ∙ ap verdict_of h) }

  module _ (buffer : List Float) where
    count-given : (k : ℕ) → (marks s buffer).result ≡ gives k → marks_in s ≡ k
    unfolding marks
    count-given k e = given (eqb (first_refusal (marks_tests s buffer)) 0) (first_refusal (marks_tests s buffer)) (marks_in s) k e

    written : (k : ℕ) → (marks s buffer).result ≡ gives k → (marks s buffer).buffer ≡ over (numbers_of s) buffer
    unfolding marks
    written k = by (eqb (first_refusal (marks_tests s buffer)) 0)
      where
        by : (t : Bool) → cond t (gives (marks_in s)) (refuses (first_refusal (marks_tests s buffer))) ≡ gives k → cond t (over (numbers_of s) buffer) buffer ≡ over (numbers_of s) buffer
        by true e = refl
        by false e = never (cc)

    pub numbers-exact : PlanArrays s.plan → (k : ℕ) → (marks s buffer).result ≡ gives k → (n : ℕ) → n < k
        → ExactFive (whole_mark_of (plan_in s) (drawing_in s).final n) (drop (5 * n) (marks s buffer).buffer)
    unfolding numbers_of
    numbers-exact a k e n l =
        let i = count-given k e in
        let h = shown (test14 (numbers_of s) buffer ∷ []) ((marks-given s buffer).0 (e ∙ ap gives (sym i))) in
        rw (written k e) (rooms.five-exact s.plan s.drawing (counts_in s.header.stage) h a n (drop (length (numbers_of s)) buffer) (omega (arith, i)))

    pub writes-marks : PlanArrays s.plan → {a : Result ℕ Refusal} {out : List Float} → Writes (marks s buffer) a out → WritesMarks s buffer a out
    writes-marks arrays w = record {
      writes = w;
      exact = λ k h n l. rw w.left (numbers-exact arrays k (sym w.answered ∙ ap verdict_of h) n l);
    }
