-- A step, from what the sheet's own call promised: one law an arm.
use mathlib.Core.List.{List}
use mathlib.Core.Path.{◌≡◌, refl, ap, ◌∙◌}
use Prim.Native.Nat.{ℕ}
use lib.Ieee.{Float}
use Rattle.std.specs.Prelude.{Result}
use Rattle.ints.specs.Refusals.{verdict_of}
use Rattle.ints.specs.declared.refusal.Refusal.{Refusal}
use Rattle.marks.specs.declared.types.Mark.{Mark as AMark}
use Rattle.sheet.specs.declared.types.Sheet.{Sheet}
use Rattle.sheet.specs.Calls as sheet
use Rattle.sheet.specs.Calls.{SheetOut, Leaves, Draws, Writes}
use Rattle.calls.specs.declared.types.Call.{Call}
use Rattle.calls.specs.declared.types.Call.TheVariants.{Load, LoadTangled, Draw, Line, Report, TextLine, WholeText, Mark, Marks, Clear}
use Rattle.calls.specs.declared.types.Reply.{Reply}
use Rattle.calls.specs.Replies.{done, written, marked, reply_of, each}
use Rattle.calls.specs.Step.{Lent, Steps, step, changed}
use Rattle.calls.specs.inner.Replied.{Changes}

module _ (l : Lent) (s : Sheet) where
  -- calls that change the sheet
  changes : (o : SheetOut) {a : Result Unit Refusal} {t : Sheet} {r : Result Reply Refusal} {u : Sheet} → Leaves o a t → Changes a t r u
      → Steps (changed o l) r u l.buffer l.numbers
  changes o h k = record {
    answered = k.replied ∙ ap (each (λ u. done)) h.answered;
    left = k.left ∙ h.left;
    bytes = refl;
    floats = refl;
  }

  module _ {q : Call} {a : Result Unit Refusal} {t : Sheet} {r : Result Reply Refusal} {u : Sheet} where
    pub load-steps : q ≡ Load → Leaves (sheet.load s l.text) a t → Changes a t r u → Steps (step q l s) r u l.buffer l.numbers
    unfolding step
    load-steps e h k = rw e (changes _ h k)

    pub tangled-steps : q ≡ LoadTangled → Leaves (sheet.load_tangled s l.text) a t → Changes a t r u → Steps (step q l s) r u l.buffer l.numbers
    unfolding step
    tangled-steps e h k = rw e (changes _ h k)

    pub draw-steps : q ≡ Draw → Draws s a t → Changes a t r u → Steps (step q l s) r u l.buffer l.numbers
    unfolding step
    draw-steps e h k = rw e (changes _ h.leaves k)

    pub clear-steps : q ≡ Clear → Leaves (sheet.clear s) a t → Changes a t r u → Steps (step q l s) r u l.buffer l.numbers
    unfolding step
    clear-steps e h k = rw e (changes _ h k)

  -- calls that write
  module _ {q : Call} {a : Result ℕ Refusal} {r : Result Reply Refusal} where
    pub line-steps : {n : ℕ} {b : List ℕ} → q ≡ Line n → Writes (sheet.line s n l.buffer) a b → reply_of r ≡ each written (verdict_of a)
        → Steps (step q l s) r s b l.numbers
    unfolding step
    line-steps e h k = rw e (record { answered = k ∙ ap (each written) h.answered; left = refl; bytes = h.left; floats = refl })

    pub report-steps : {b : List ℕ} → q ≡ Report → Writes (sheet.report s l.buffer) a b → reply_of r ≡ each written (verdict_of a)
        → Steps (step q l s) r s b l.numbers
    unfolding step
    report-steps e h k = rw e (record { answered = k ∙ ap (each written) h.answered; left = refl; bytes = h.left; floats = refl })

    pub text-line-steps : {n : ℕ} {b : List ℕ} → q ≡ TextLine n → Writes (sheet.text_line s n l.buffer) a b → reply_of r ≡ each written (verdict_of a)
        → Steps (step q l s) r s b l.numbers
    unfolding step
    text-line-steps e h k = rw e (record { answered = k ∙ ap (each written) h.answered; left = refl; bytes = h.left; floats = refl })

    pub whole-text-steps : {b : List ℕ} → q ≡ WholeText → Writes (sheet.whole_text s l.buffer) a b → reply_of r ≡ each written (verdict_of a)
        → Steps (step q l s) r s b l.numbers
    unfolding step
    whole-text-steps e h k = rw e (record { answered = k ∙ ap (each written) h.answered; left = refl; bytes = h.left; floats = refl })

    pub marks-steps : {b : List Float} → q ≡ Marks → Writes (sheet.marks s l.numbers) a b → reply_of r ≡ each written (verdict_of a)
        → Steps (step q l s) r s l.buffer b
    unfolding step
    marks-steps e h k = rw e (record { answered = k ∙ ap (each written) h.answered; left = refl; bytes = refl; floats = h.left })

  pub mark-steps : {q : Call} (a : Result AMark Refusal) {r : Result Reply Refusal} {n : ℕ} → q ≡ Mark n → verdict_of a ≡ sheet.mark s n
      → reply_of r ≡ each marked (verdict_of a) → Steps (step q l s) r s l.buffer l.numbers
  unfolding step
  mark-steps a e h k = rw e (record { answered = k ∙ ap (each marked) h; left = refl; bytes = refl; floats = refl })
