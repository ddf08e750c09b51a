-- The numbers of answers, as the calls for C meet them: of what a call promises, its answer's number is that of its outcome, and what it
-- writes is short enough for a number.
use mathlib.Core.Path.{◌≡◌, refl, sym, ◌∙◌, ap}
use mathlib.Core.List.{List}
use Prim.Native.Nat.{ℕ, ◌<◌, ◌^◌}
use native.Mathlib.Omega.{arith}
use lib.IntN.{ℤ}
use Rattle.std.specs.Prelude.{Result, Ok, Err}
use Rattle.ints.specs.Refusals.{Verdict, gives, number_of, verdict_of, refused_by}
use Rattle.ints.specs.declared.refusal.Refusal.{Refusal}
use Rattle.run.specs.Call as run
use Rattle.text_write.specs.Again as rewriting
use Rattle.text_untangle.specs.Text as untangling
use Rattle.sheet.specs.Calls.{BufferOut, Writes}
use Rattle.picture_fit.specs.declared.types.PictureError.{PictureError}
use Rattle.picture_fit.specs.Fitted as fitting
use Rattle.picture_fit.specs.Fitted.{Drawn, written, drawn_of}
use Rattle.c_codes.specs.Code.{verdict_by, code_of, Codes}
use Rattle.c_codes.specs.Again as again
use Rattle.c_codes.specs.Untangled as untangled
use Rattle.c_codes.specs.Picture as picture
use Rattle.c_codes.specs.Run.{Answers}
use Rattle.c_codes.specs.inner.Few.{Few, FewDrawn}

-- by the numbers of the refusals it is what the call gives
pub verdict_is : {A : Type 0} (a : Result A Refusal) → verdict_by number_of a ≡ verdict_of a
verdict_is (Ok a) = refl
verdict_is (Err r) = refl

pub codes : {A : Type 0} {o : BufferOut A} {a : Result ℕ Refusal} {r : ℤ} {out : List A} → Writes o a out → r ≡ code_of (verdict_by number_of a) → Codes o r out
codes {a = a} w e = record { code = e ∙ ap code_of (verdict_is a ∙ w.answered); buffer = w.left }

pub again-codes : {l : rewriting.Left} {a : Result ℕ Refusal} {r : ℤ} {out : List ℕ} → rewriting.Leaves l a out → r ≡ code_of (verdict_by number_of a) → again.Codes l r out
again-codes {a = a} w e = record { code = e ∙ ap code_of (verdict_is a ∙ w.answer); buffer = w.buffer }

pub untangled-codes : {l : untangling.Left} {a : Result ℕ Refusal} {r : ℤ} {out m : List ℕ} → untangling.Leaves l a out m → r ≡ code_of (verdict_by number_of a) → untangled.Codes l r out m
untangled-codes {a = a} w e = record { code = e ∙ ap code_of (verdict_is a ∙ w.answer); buffer = w.buffer; numbers_left = w.numbers }

pub picture-codes : {l : fitting.Left} {a : Result ℕ (PictureError Refusal)} {r : ℤ} {out : List ℕ} → fitting.Leaves l a out → r ≡ picture.code_of (drawn_of a) → picture.Codes l r out
picture-codes w e = record { code = e ∙ ap picture.code_of w.answer; buffer = w.buffer }

pub run-answers : {o : run.Out} {a : Result Unit Refusal} {left : List ℤ} {n : ℕ} → run.Outcome o a left → n ≡ refused_by a → Answers o n left
run-answers h e = record { number = e ∙ h.answered; buffer = h.left }

pub few : {o : Verdict ℕ} (a : Result ℕ Refusal) → ((n : ℕ) → o ≡ gives n → n < 2 ^ 63) → verdict_of a ≡ o → Few a
few (Ok n) f e = omega (arith, f n (sym e))
few (Err r) f e = tt

pub few-drawn : {o : Drawn} (a : Result ℕ (PictureError Refusal)) → ((n : ℕ) → o ≡ written n → n < 2 ^ 63) → drawn_of a ≡ o → FewDrawn a
few-drawn (Ok n) f e = omega (arith, f n (sym e))
few-drawn (Err r) f e = tt
