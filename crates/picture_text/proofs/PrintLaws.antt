-- What is printed, by what was answered in a buffer that has room for every picture.
use mathlib.Core.Path.{◌≡◌, refl, ◌∙◌, ap}
use mathlib.Core.Bool.{Bool, true, false, cond}
use mathlib.Core.List.{List}
use Prim.Native.Nat.{ℕ, ◌≤◌, ◌<◌, ◌^◌}
use native.Mathlib.Omega.{arith}
use borrow.Author.Tests.{le-ltb}
use lib.Dec.{ltb}
use lib.ListN.{length, length-append}
use Rattle.std.specs.Prelude.{Result}
use Rattle.ints.specs.Lists.{over}
use Rattle.ints.specs.declared.refusal.Refusal.{Refusal}
use Rattle.plan.specs.Plan.{PlanData}
use Rattle.plan.specs.Acceptable.{acceptable}
use Rattle.text.specs.Reading.{Reading, accepted, refused, reading}
use Rattle.text.proofs.DecimalLaws.{decimal-length}
use Rattle.text.proofs.RoundTrip.{read-acceptable}
use Rattle.text.proofs.Words.{never}
use Rattle.text_write.specs.Again.{refused_line}
use Rattle.text_write.specs.inner.Written.{Fronts}
use Rattle.passes.specs.Drawing.{drawing_of}
use Rattle.demand3.proofs.Theorem.{demand3}
use Rattle.report_lines.proofs.Listed.{final-within}
use Rattle.picture_names.specs.Names.{Names, named, bad, names_of}
use Rattle.picture_names.proofs.Sizes.{names-sized}
use Rattle.picture_marks.specs.Picture.{picture_of}
use Rattle.picture_marks.specs.inner.Asked.{DrawnPlan, max_picture}
use Rattle.picture_marks.proofs.Lengths.{picture-short}
use Rattle.picture_fit.specs.declared.types.PictureError.{PictureError}
use Rattle.picture_fit.specs.Fitted.{Drawn, written, refused as unread, bad_names, drawn_of, Left, refuses, fitted, Leaves}
use Rattle.picture_text.specs.Text.{named_picture, picture_in}
use Rattle.picture_text.specs.Printed.{names_refused_line, named_printed, printed}

-- the drawing of every acceptable plan
pub drawn : (p : PlanData) → acceptable p ≡ true → DrawnPlan p (drawing_of p).final
drawn p ok = let d = demand3 p ok in record { plan = ok; positions = d.ends; within = final-within (drawing_of p) d.within }

short : (names : List ℕ) (p : PlanData) (l : List (List ℕ)) → acceptable p ≡ true → names_of p.vias names ≡ named l → length (picture_of p (drawing_of p).final l) ≤ max_picture
short names p l ok e = let s = names-sized p.vias names e in picture-short p (drawing_of p).final l (drawn p ok) s.count s.short

-- ---- how much is written
written_is : (w o : List ℕ) (n : ℕ) → (fitted w o).answer ≡ written n → n ≡ length w
unfolding fitted
written_is w o n = by (ltb (length o) (length w))
  where
    by : (t : Bool) → (cond t (refuses 14 o) (record { answer = written (length w); buffer = over w o })).answer ≡ written n → n ≡ length w
    by true e = never (cc)
    by false e = cc

module _ (text names o : List ℕ) (n : ℕ) where
  few-named : (p : PlanData) → acceptable p ≡ true → (g : Names) → names_of p.vias names ≡ g → (named_picture p g o).answer ≡ written n → n ≤ max_picture
  unfolding named_picture
  few-named p ok (named l) e h = omega (arith, written_is (picture_of p (drawing_of p).final l) o n h, short names p l ok e)
  few-named p ok (bad line) e h = never (cc)

  few-read : (g : Reading) → reading text ≡ g → (picture_in g names o).answer ≡ written n → n ≤ max_picture
  unfolding picture_in
  few-read (accepted p) e h = few-named p (read-acceptable text p e) (names_of p.vias names) refl h
  few-read (refused m) e h = never (cc)

  pub picture-few : (picture_in (reading text) names o).answer ≡ written n → n ≤ max_picture
  picture-few h = few-read (reading text) refl h

-- ---- what is printed
module _ (text names o : List ℕ) (room : max_picture ≤ length o) where
  -- a picture is never refused 14
  all_of : (p : PlanData) (l : List (List ℕ)) → acceptable p ≡ true → names_of p.vias names ≡ named l
      → fitted (picture_of p (drawing_of p).final l) o ≡ record { answer = written (length (picture_of p (drawing_of p).final l)); buffer = over (picture_of p (drawing_of p).final l) o }
  unfolding fitted
  all_of p l ok e = rw (le-ltb (length o) (length (picture_of p (drawing_of p).final l)) (omega (arith, short names p l ok e)))

  -- what is left in the buffer, and what is printed
  module _ (r : Result ℕ (PictureError Refusal)) (out after : List ℕ) (n : ℕ) where
    abbrev pub Prints : Drawn → Type 0
    Prints (written k) = (n ≡ k) × (after ≡ out)
    Prints (unread k) = Fronts (refused_line k) out n after
    Prints (bad_names k) = Fronts (names_refused_line k) out n after

    by_names : (p : PlanData) → acceptable p ≡ true → (g : Names) → names_of p.vias names ≡ g → Leaves (named_picture p g o) r out → Prints (drawn_of r) → Fronts (named_printed p g) o n after
    unfolding named_picture named_printed
    by_names p ok (named l) e h k =
        let w = picture_of p (drawing_of p).final l in
        let a : drawn_of r ≡ written (length w) = h.answer ∙ ap (λ (m : Left). m.answer) (all_of p l ok e) in
        let b : out ≡ over w o = h.buffer ∙ ap (λ (m : Left). m.buffer) (all_of p l ok e) in
        let q = rw a at k in
        record { count = q.0; bytes = q.1 ∙ b }
    by_names p ok (bad line) e h k = rw h.buffer at (rw h.answer at k)

    by-reading : (g : Reading) → reading text ≡ g → Leaves (picture_in g names o) r out → Prints (drawn_of r) → Fronts (printed g names) o n after
    unfolding picture_in printed
    by-reading (accepted p) e h k = by_names p (read-acceptable text p e) (names_of p.vias names) refl h k
    by-reading (refused m) e h k = rw h.buffer at (rw h.answer at k)

    pub prints : Leaves (picture_in (reading text) names o) r out → Prints (drawn_of r) → Fronts (printed (reading text) names) o n after
    prints h k = by-reading (reading text) refl h k

pub line-short : (line : ℕ) → line < 2 ^ 32 → length (names_refused_line line) ≤ 35
unfolding names_refused_line
line-short line h = simp length-append (omega (arith, decimal-length 9 line (omega arith)))
