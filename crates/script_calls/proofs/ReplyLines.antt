-- The line that the program writes of a reply is that of the definition: a mark that the call gave is exact, so its words are those of
-- the mark in whole numbers.
use mathlib.Core.Path.{◌≡◌, refl, sym, ◌∙◌, ap}
use mathlib.Core.List.{List}
use Prim.Native.Nat.{ℕ, ◌<◌, ◌^◌}
use native.Mathlib.Omega.{arith}
use lib.ListN.{take, length-take}
use lib.Ieee.{Float}
use Rattle.std.specs.Prelude.{Result, Ok, Err, is_err}
use Rattle.ints.specs.Refusals.{Verdict, gives, refuses}
use Rattle.ints.specs.declared.refusal.Refusal.{Refusal}
use Rattle.text.proofs.Words.{never}
use Rattle.text_write.specs.inner.Written.{Room, Wrote}
use Rattle.marks.specs.declared.types.Mark.{Mark}
use Rattle.marks.specs.Marks.{whole_mark_of}
use Rattle.sheet.specs.declared.types.Sheet.{Sheet}
use Rattle.sheet.specs.Sheet.{plan_in, drawing_in}
use Rattle.sheet.specs.Calls as sheet
use Rattle.sheet.proofs.Exactly.{mark-fits, mark-exact}
use Rattle.calls.specs.declared.types.Call.{Call}
use Rattle.calls.specs.declared.types.Call.TheVariants.{Load, LoadTangled, Draw, Line, Report, TextLine, WholeText, Mark as MarkOf, Marks, Clear}
use Rattle.calls.specs.declared.types.Reply.{Reply}
use Rattle.calls.specs.declared.types.Reply.TheVariants.{Done, Written, Given}
use Rattle.calls.specs.Replies as value
use Rattle.calls.specs.Replies.{Value, written, marked, reply_of, each}
use Rattle.calls.specs.Step.{Lent, step, Steps}
use Rattle.script_answers.specs.Answers.{text, refused, done, line_of}
use Rattle.script_answers.specs.inner.MarkLine.{mark_line_in}
use Rattle.script_answers.proofs.MarkLine.{mark-line}
use Rattle.script_answers.proofs.Lengths.{said-short, mark-in-short}
use Rattle.script_calls.specs.Said.{mark_asked, call_said, is_refusal}
use Rattle.script_calls.specs.inner.Answered.{reply_line, AnswerRoom, Fitted, AnswersCall}

-- ---- a mark is given by the call mark alone
no-mark : {A : Type 0} (f : A → Value) (r : Verdict A) {m : Mark} → ((a : A) → f a ≡ marked m → ⊥) → gives (marked m) ≡ each f r → ⊥
no-mark f (gives a) n e = n a (cc)
no-mark f (refuses k) n e = never (cc)

done_none : {m : Mark} → value.done ≡ marked m → ⊥
done_none e = never (cc)

written_none : {m : Mark} (n : ℕ) → written n ≡ marked m → ⊥
written_none n e = never (cc)

a-mark : (r : Verdict Mark) {m : Mark} → gives (marked m) ≡ each marked r → r ≡ gives m
a-mark (gives a) e = cc
a-mark (refuses k) e = never (cc)

module _ (l : Lent) (s : Sheet) where
  mark-given : (q : Call) (m : Mark) → gives (marked m) ≡ (step q l s).result → sheet.mark s (mark_asked q) ≡ gives m
  unfolding step
  mark-given Load m e = absurd (no-mark (λ u. value.done) (sheet.load s l.text).result (λ a. done_none) e)
  mark-given LoadTangled m e = absurd (no-mark (λ u. value.done) (sheet.load_tangled s l.text).result (λ a. done_none) e)
  mark-given Draw m e = absurd (no-mark (λ u. value.done) (sheet.draw s).result (λ a. done_none) e)
  mark-given (Line n) m e = absurd (no-mark written (sheet.line s n l.buffer).result written_none e)
  mark-given Report m e = absurd (no-mark written (sheet.report s l.buffer).result written_none e)
  mark-given (TextLine n) m e = absurd (no-mark written (sheet.text_line s n l.buffer).result written_none e)
  mark-given WholeText m e = absurd (no-mark written (sheet.whole_text s l.buffer).result written_none e)
  mark-given (MarkOf n) m e = a-mark (sheet.mark s n) e
  mark-given Marks m e = absurd (no-mark written (sheet.marks s l.numbers).result written_none e)
  mark-given Clear m e = absurd (no-mark (λ u. value.done) (sheet.clear s).result (λ a. done_none) e)

  -- ---- the line of a reply
  pub reply-line : (q : Call) (r : Result Reply Refusal) → reply_of r ≡ (step q l s).result → reply_line r (step q l s).buffer ≡ line_of (call_said q l s)
  unfolding call_said
  reply-line q (Ok Done) e = rw (sym e)
  reply-line q (Ok (Written n)) e = rw (sym e)
  reply-line q (Ok (Given m)) e =
      let w = whole_mark_of (plan_in s) (drawing_in s).final (mark_asked q) in
      let g = mark-given q m e in
      rw (sym e) (mark-line w m (mark-fits s (mark_asked q) m g) (mark-exact s (mark_asked q) m g))
  reply-line q (Err n) e = rw (sym e)

  reply-refused : (r : Result Reply Refusal) → is_err r ≡ is_refusal (reply_of r)
  reply-refused (Ok Done) = refl
  reply-refused (Ok (Written n)) = refl
  reply-refused (Ok (Given m)) = refl
  reply-refused (Err n) = refl

  pub answers-call : {q : Call} (r : Result Reply Refusal) {left : Sheet} {b : List ℕ} {f : List Float} {o out : List ℕ} {at next : ℕ} → Steps (step q l s) r left b f → Fitted (reply_line r b) o at next out
      → AnswersCall q l s o at next (is_err r) left out b f
  answers-call {q} r h w = record {
    said = rw (sym (reply-line q r h.answered)) (rw h.bytes at w);
    refused = reply-refused r ∙ ap is_refusal h.answered;
    sheet = h.left;
    bytes = h.bytes;
    floats = h.floats;
  }

-- ---- there is room for it
pub fitted : {w o out : List ℕ} {at to : ℕ} → Room w o at → Wrote w o at to out → Fitted w o at to out
fitted r h = record { wrote = h; inside = omega (arith, h.next) }

module _ {buffer out : List ℕ} {at : ℕ} (h : AnswerRoom buffer out at) where
  pub done-room : Room (line_of done) out at
  done-room = omega (arith, h.answer, said-short done tt)

  pub text-room : (n : ℕ) → Room (line_of (text (take n buffer))) out at
  text-room n = omega (arith, h.answer, said-short (text (take n buffer)) (omega (arith, h.line, length-take n buffer)))

  pub mark-room : (m : Mark) → Room (mark_line_in m) out at
  mark-room m = omega (arith, h.answer, mark-in-short m)

  pub refused-room : (n : ℕ) → n < 2 ^ 64 → Room (line_of (refused n)) out at
  refused-room n l = omega (arith, h.answer, said-short (refused n) l)
