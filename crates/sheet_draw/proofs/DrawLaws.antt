-- What draw gives, as the program meets it: by the number of its refusal.
use mathlib.Core.Path.{◌≡◌, refl, sym, ◌∙◌, ap}
use mathlib.Core.Bool.{true, false}
use Rattle.std.specs.Result.{is_err}
use Prim.Native.Nat.{ℕ}
use borrow.Author.Tests.{ne_eqb, not-false}
use Rattle.std.specs.Prelude.{Result, Ok, Err}
use Rattle.ints.specs.Refusals.{gives, number_of, refused_by}
use Rattle.ints.specs.declared.refusal.Refusal.{Refusal}
use Rattle.ints.proofs.Refusals.{none-at, none_found, has-number}
use Rattle.text.proofs.Words.{never}
use Rattle.passes.specs.Drawing.{drawing_of}
use Rattle.report.specs.declared.data.Counts.{Counts}
use Rattle.report.specs.declared.data.NewDrawing.{NewDrawing}
use Rattle.sheet_data.specs.inner.Parts.{plan_with, is_plan_with, new_drawing, Draws as Made}
use Rattle.sheet.specs.declared.types.Sheet.{Sheet}
use Rattle.sheet.specs.Sheet.{plan_in, drawn_sheet}
use Rattle.sheet.specs.Tests.{holds_plan}
use Rattle.sheet.specs.Calls.{sheet_out, draw_tests, draw, Draws}
use Rattle.sheet.specs.inner.Refusals.{counts_in, draw_refusal, with_drawing}
use Rattle.sheet.proofs.Leaves.{leaves}

-- refused, or not
pub refused-with : {a : Result Unit Refusal} → is_err a ≡ true → (r : Refusal) × (a ≡ Err r)
refused-with {a = Ok u} e = never (e)
refused-with {a = Err r} e = (r, refl)

pub taken-with : {a : Result Unit Refusal} → is_err a ≡ false → a ≡ Ok tt
taken-with {a = Ok u} e = refl
taken-with {a = Err r} e = never (sym e)

module _ (s : Sheet) (a : Result Unit Refusal) (e : refused_by a ≡ draw_refusal s.header.stage s.plan s.remembered) where
  pub draws-not : (r : Refusal) → a ≡ Err r → Draws s a s
  unfolding draw draw_refusal
  draws-not r f =
      let m : number_of r ≡ draw_refusal s.header.stage s.plan s.remembered = sym (ap refused_by f) ∙ e in
      rw f (record { leaves = leaves s (rw (← m, ne_eqb (number_of r) 0 (has-number r))) refl; demand3 = λ b. never (cc) })

  module _ (f : a ≡ Ok tt) where
    none : 0 ≡ draw_refusal s.header.stage s.plan s.remembered
    none = sym (ap refused_by f) ∙ e

    drawn : draw s ≡ sheet_out (gives tt) (drawn_sheet s (drawing_of (plan_in s)))
    unfolding draw draw_refusal
    drawn = rw (← none)

    pub plan-holds : is_plan_with s.plan (counts_in s.header.stage) ≡ true
    unfolding draw_refusal
    plan-holds = not-false (holds_plan s) (none-at (draw_tests s) (none_found 0 (draw_tests s) refl none refl) 1)

    pub draws : (c : Counts) → c ≡ counts_in s.header.stage → (n : NewDrawing) → Made s.plan c n → {t : Sheet} → t ≡ with_drawing s n → Draws s a t
    unfolding drawn_sheet
    draws c h n g {t} k =
        let is : n ≡ new_drawing (drawing_of (plan_in s)) = g.is ∙ ap (λ (k : Counts). new_drawing (drawing_of (plan_with s.plan k))) h in
        let left : t ≡ drawn_sheet s (drawing_of (plan_in s)) = k ∙ ap (with_drawing s) is in
        rw f (record { leaves = leaves (drawn_sheet s (drawing_of (plan_in s))) drawn left; demand3 = λ b. rw k (rw h at g.demand3) })
