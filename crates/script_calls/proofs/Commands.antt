-- What is answered to the commands of a sheet, in the sheet's own words.
use mathlib.Core.Path.{◌≡◌, refl, ◌∙◌, ap}
use mathlib.Core.Bool.{Bool, true, false, cond}
use mathlib.Core.List.{List}
use Prim.Native.Nat.{ℕ}
use lib.Dec.{eqb}
use lib.ListN.{length, drop}
use lib.Seq.{take_at}
use Rattle.ints.specs.Lists.{over}
use Rattle.ints.specs.Refusals.{gives, refuses, first_refusal}
use Rattle.text.proofs.Words.{never}
use Rattle.marks.specs.declared.types.Mark.{Mark}
use Rattle.marks.specs.Marks.{WholeMark, whole_mark_of}
use Rattle.sheet.specs.declared.types.Sheet.{Sheet}
use Rattle.sheet.specs.Sheet.{plan_in, drawing_in}
use Rattle.sheet.specs.Results.{result_after}
use Rattle.sheet.specs.Tests.{line_of, text_line_of}
use Rattle.sheet.specs.Calls as sheet
use Rattle.sheet.specs.Calls.{text_after, line_tests, text_line_tests}
use Rattle.calls.specs.declared.types.Call.TheVariants.{Load, LoadTangled, Draw, Line, TextLine, Mark as MarkOf, Clear}
use Rattle.calls.specs.Replies.{written, each}
use Rattle.calls.specs.Step.{Lent, step}
use Rattle.script_answers.specs.Answers.{refused, done, text, mark}
use Rattle.script_calls.specs.Said.{result_said, call_said}

-- ---- a text that a call writes, unless its tests came out as a refusal
pub written-said : (m : WholeMark) (r : ℕ) (w b : List ℕ)
    → result_said m (text_after r w b).buffer (each written (text_after r w b).result) ≡ cond (eqb r 0) (text w) (refused r)
written-said m r w b = by (eqb r 0)
  where
    by : (t : Bool) → result_said m (cond t (over w b) b) (each written (cond t (gives (length w)) (refuses r))) ≡ cond t (text w) (refused r)
    by true = ap text (take_at w (drop (length w) b) (length w) refl)
    by false = refl

given : (r n k : ℕ) → result_after r n ≡ gives k → eqb r 0 ≡ true
given r n k = by (eqb r 0)
  where
    by : (t : Bool) → cond t (gives n) (refuses r) ≡ gives k → t ≡ true
    by true e = refl
    by false e = never (cc)

-- ---- the commands
module _ (l : Lent) (s : Sheet) where
  abbrev whole : ℕ → WholeMark
  whole n = whole_mark_of (plan_in s) (drawing_in s).final n

  -- load by either way, draw and clear: "ok", or the refusal
  pub load-done : (sheet.load s l.text).result ≡ gives tt → call_said Load l s ≡ done
  unfolding call_said step
  load-done e = rw e

  pub load-refused : (m : ℕ) → (sheet.load s l.text).result ≡ refuses m → call_said Load l s ≡ refused m
  unfolding call_said step
  load-refused m e = rw e

  pub tangled-done : (sheet.load_tangled s l.text).result ≡ gives tt → call_said LoadTangled l s ≡ done
  unfolding call_said step
  tangled-done e = rw e

  pub tangled-refused : (m : ℕ) → (sheet.load_tangled s l.text).result ≡ refuses m → call_said LoadTangled l s ≡ refused m
  unfolding call_said step
  tangled-refused m e = rw e

  pub draw-done : (sheet.draw s).result ≡ gives tt → call_said Draw l s ≡ done
  unfolding call_said step
  draw-done e = rw e

  pub draw-refused : (m : ℕ) → (sheet.draw s).result ≡ refuses m → call_said Draw l s ≡ refused m
  unfolding call_said step
  draw-refused m e = rw e

  pub clear-done : call_said Clear l s ≡ done
  unfolding call_said step sheet.clear
  clear-done = refl

  module _ (n : ℕ) where
    -- a line's text is the report's n-th line
    pub line-said : (k : ℕ) → (sheet.line s n l.buffer).result ≡ gives k → call_said (Line n) l s ≡ text (line_of s n)
    unfolding call_said step sheet.line
    line-said k e =
        let r = first_refusal (line_tests s n l.buffer) in
        written-said (whole 0) r (line_of s n) l.buffer ∙ rw (given r (length (line_of s n)) k e)

    pub line_refused : (m : ℕ) → (sheet.line s n l.buffer).result ≡ refuses m → call_said (Line n) l s ≡ refused m
    unfolding call_said step
    line_refused m e = rw e

    -- or the n-th line of the text as it was read
    pub text-said : (k : ℕ) → (sheet.text_line s n l.buffer).result ≡ gives k → call_said (TextLine n) l s ≡ text (text_line_of s n)
    unfolding call_said step sheet.text_line
    text-said k e =
        let r = first_refusal (text_line_tests s n l.buffer) in
        written-said (whole 0) r (text_line_of s n) l.buffer ∙ rw (given r (length (text_line_of s n)) k e)

    pub text-refused : (m : ℕ) → (sheet.text_line s n l.buffer).result ≡ refuses m → call_said (TextLine n) l s ≡ refused m
    unfolding call_said step
    text-refused m e = rw e

    pub mark-said : (m : Mark) → sheet.mark s n ≡ gives m → call_said (MarkOf n) l s ≡ mark (whole n)
    unfolding call_said step
    mark-said m e = rw e

    pub mark-refused : (m : ℕ) → sheet.mark s n ≡ refuses m → call_said (MarkOf n) l s ≡ refused m
    unfolding call_said step
    mark-refused m e = rw e
