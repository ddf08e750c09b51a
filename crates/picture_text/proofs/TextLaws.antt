-- What becomes of a text, as the programs meet it, and what the picture of a plan asks for.
use mathlib.Core.Path.{◌≡◌, refl, sym, ◌∙◌, ap}
use mathlib.Core.Bool.{Bool}
use mathlib.Core.List.{List, [], map}
use Prim.Native.Nat.{ℕ, ◌≤◌}
use native.Mathlib.Omega.{arith}
use lib.ListN.{length, length-map}
use lib.Seq.{ext_get_or}
use Rattle.std.specs.Prelude.{Result, Ok, Err}
use Rattle.ints.specs.Lists.{sum}
use Rattle.ints.specs.Refusals.{number_of}
use Rattle.ints.specs.declared.refusal.Refusal.{Refusal}
use Rattle.plan.specs.Plan.{PlanData, numbers}
use Rattle.plan.proofs.Levels.{length-numbers}
use Rattle.passes.specs.Drawing.{drawing_of}
use Rattle.text.specs.Reading.{accepted, refused}
use Rattle.text_marks.proofs.Shown.{marks-asked}
use Rattle.text.proofs.Words.{never}
use Rattle.picture_names.specs.Names.{Names, named, bad, names_of, answer_of}
use Rattle.picture_names.specs.declared.types.BadLine.{BadLine}
use Rattle.picture_names.specs.inner.Indexed.{name_at, HoldsNames, Indexed}
use Rattle.picture_names.proofs.Sizes.{names-sized}
use Rattle.picture_marks.specs.Picture.{picture_of}
use Rattle.picture_marks.specs.inner.Asked.{names_in, PictureAsked}
use Rattle.picture_marks.proofs.ByLists.{given-at}
use Rattle.picture_fit.specs.declared.types.PictureError.{PictureError}
use Rattle.picture_fit.specs.declared.types.PictureError.TheVariants.{Refused, Names as BadNames}
use Rattle.picture_fit.specs.Fitted.{Left, fitted, Leaves}
use Rattle.picture_text.specs.Text.{named_picture, picture_in}
use Rattle.picture_text.specs.inner.Named.{NamedPlan}

-- the same by another definition
pub leaves : {l m : Left} {r : Result ℕ (PictureError Refusal)} {out : List ℕ} → l ≡ m → Leaves m r out → Leaves l r out
leaves e w = rw e w

-- ---- refused, and not
pub refused-so : (r : Refusal) (names o : List ℕ) → Leaves (picture_in (refused (number_of r)) names o) (Err (Refused r)) o
unfolding picture_in
refused-so r names o = record { answer = refl; buffer = refl }

pub names-refused : (p : PlanData) (names o : List ℕ) (line : BadLine) → names_of p.vias names ≡ bad line.0 → Leaves (picture_in (accepted p) names o) (Err (BadNames line)) o
unfolding picture_in named_picture
names-refused p names o line e = rw e (record { answer = refl; buffer = refl })

pub picture-of : (p : PlanData) (names o : List ℕ) (l : List (List ℕ)) → names_of p.vias names ≡ named l
    → picture_in (accepted p) names o ≡ fitted (picture_of p (drawing_of p).final l) o
unfolding picture_in named_picture
picture-of p names o l e = rw e

-- ---- names by their places
names-are : (text starts ends : List ℕ) (l : List (List ℕ)) (n : ℕ) → length l ≡ n → HoldsNames text starts ends l → names_in text starts ends n ≡ l
names-are text starts ends l n e h =
    ext_get_or [] (names_in text starts ends n) l (long ∙ sym e) (λ v k. given-at (name_at text starts ends) [] n v (omega (arith, long)) ∙ h.names v (omega (arith, long)))
  where
    long : length (names_in text starts ends n) ≡ n
    long = length-map (numbers 0 n) (name_at text starts ends) ∙ length-numbers 0 n

-- ---- what the picture of a plan asks for
module _ (p : PlanData) (text starts ends : List ℕ) (h : NamedPlan p text starts ends) where
  pub names-is : names_in text starts ends (length p.vias) ≡ h.names
  names-is = names-are text starts ends h.names (length p.vias) (names-sized p.vias text h.good).count h.holds

  pub names-few : sum (map length (names_in text starts ends (length p.vias))) ≤ 65536
  names-few = rw names-is (names-sized p.vias text h.good).short

  pub picture-asked : PictureAsked p (drawing_of p).final text starts ends
  picture-asked =
      let m = marks-asked p h.plan in
      let n = (names-sized p.vias text h.good).count in
      record {
        drawn = record { plan = h.plan; positions = m.agreeing.positions; within = m.near.within };
        names = record {
          starts_long = h.starts_long;
          ends_long = h.ends_long;
          ordered = λ w k. h.holds.ordered w (omega (arith, n));
          inside = λ w k. h.holds.inside w (omega (arith, n));
        };
      }

-- ---- by what the names answered
module _ (p : PlanData) {text starts ends : List ℕ} {r : Result Unit BadLine} (o : List ℕ) (h : Indexed (names_of p.vias text) text starts ends r) where
  pub bad-refused : {line : BadLine} → r ≡ Err line → Leaves (picture_in (accepted p) text o) (Err (BadNames line)) o
  bad-refused {line} e = go (names_of p.vias text) refl (sym h.answer ∙ e)
    where
      go : (g : Names) → names_of p.vias text ≡ g → answer_of g ≡ Err line → Leaves (picture_in (accepted p) text o) (Err (BadNames line)) o
      go (bad n) f k = let same : ◌≡◌ {A = BadLine} (record { 0 = n }) line = cc in names-refused p text o line (f ∙ ap (λ (b : BadLine). bad b.0) same)
      go (named l) f k = never (cc)

pub record Listed (vias : List Bool) (text starts ends : List ℕ) : Type 0 where
  pub names : List (List ℕ)
  pub good : names_of vias text ≡ named names
  pub holds : HoldsNames text starts ends names

pub good-named : {vias : List Bool} {text starts ends : List ℕ} {r : Result Unit BadLine} → Indexed (names_of vias text) text starts ends r → r ≡ Ok tt → Listed vias text starts ends
good-named {vias} {text} {starts} {ends} h e = go (names_of vias text) refl (sym h.answer ∙ e)
  where
    go : (g : Names) → names_of vias text ≡ g → answer_of g ≡ Ok tt → Listed vias text starts ends
    go (bad n) f k = never (cc)
    go (named l) f k = record { names = l; good = f; holds = h.holds l f }
