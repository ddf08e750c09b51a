-- What becomes of a text, as the programs meet it: by what reading it answered; how many marks and vertices it has at most.
use mathlib.Core.Path.{◌≡◌, refl, sym, ◌∙◌, ap}
use mathlib.Core.List.{List, [], ◌∷◌}
use Prim.Native.Nat.{ℕ, ◌≤◌}
use native.Mathlib.Omega.{arith}
use lib.Dec.{eqb}
use lib.IntN.{ℤ}
use lib.Ieee.{Float}
use Rattle.std.specs.Prelude.{Result, Err}
use Rattle.ints.specs.Refusals.{first_refusal, number_of, refused_by, gives}
use Rattle.ints.specs.declared.refusal.Refusal.{Refusal}
use Rattle.ints.proofs.Refusals.{has-number}
use Rattle.plan.specs.Plan.{PlanData, vertex_count}
use Rattle.plan.proofs.Sound.{sound}
use Rattle.text.specs.Reading.{Reading, accepted, refused, reading}
use Rattle.text.proofs.RoundTrip.{read-acceptable}
use Rattle.text.proofs.Words.{never}
use Rattle.passes.specs.Drawing.{drawing_of}
use Rattle.marks.specs.Marks.{mark_count, all_numbers}
use Rattle.sheet.specs.Tests.{test14}
use Rattle.sheet.specs.Calls.{Writes}
use Rattle.sheet.proofs.WhenRefused.{given}
use Rattle.sheet_fit.specs.inner.Fitted.{fitted}
use Rattle.text_marks.specs.Marks.{marks_of}
use Rattle.text_marks.specs.Positions.{both_of, positions_of}

-- ---- a text that is accepted, and one that is refused
module _ (p : PlanData) where
  pub marks-of : (b : List Float) → marks_of (accepted p) b ≡ fitted (mark_count p) (all_numbers p (drawing_of p).final) b
  unfolding marks_of
  marks-of b = refl

  pub positions-of : (b : List ℤ) → positions_of (accepted p) b ≡ fitted (vertex_count p) (both_of p) b
  unfolding positions_of
  positions-of b = refl

module _ (r : Refusal) where
  pub marks-not : (b : List Float) → Writes (marks_of (refused (number_of r)) b) (Err r) b
  unfolding marks_of
  marks-not b = record { answered = refl; left = refl }

  pub positions-not : (b : List ℤ) → Writes (positions_of (refused (number_of r)) b) (Err r) b
  unfolding positions_of
  positions-not b = record { answered = refl; left = refl }

-- what reading refuses, by what it answered
pub refused-read : (s : List ℕ) (v : Result Unit Refusal) (r : Refusal) → v ≡ Err r → ((refused_by v ≡ 0 → ⊥) → reading s ≡ refused (refused_by v)) → reading s ≡ refused (number_of r)
refused-read s v r e f = f (λ z. has-number r (sym (ap refused_by e) ∙ z)) ∙ ap (λ (w : Result Unit Refusal). refused (refused_by w)) e

-- ---- how many at most
module _ (text : List ℕ) where
  pub marks-few : (b : List Float) (n : ℕ) → (marks_of (reading text) b).result ≡ gives n → n ≤ 3072
  unfolding marks_of
  marks-few b n = go (reading text) refl
    where
      go : (g : Reading) → reading text ≡ g → (marks_of g b).result ≡ gives n → n ≤ 3072
      go (accepted p) e h =
          let l = (sound p (read-acceptable text p e)).limits in
          let r = first_refusal (test14 (all_numbers p (drawing_of p).final) b ∷ []) in
          omega (arith, l.vertices, l.segments, given (eqb r 0) r (mark_count p) n h)
      go (refused k) e h = never (cc)

  pub positions-few : (b : List ℤ) (n : ℕ) → (positions_of (reading text) b).result ≡ gives n → n ≤ 1024
  unfolding positions_of
  positions-few b n = go (reading text) refl
    where
      go : (g : Reading) → reading text ≡ g → (positions_of g b).result ≡ gives n → n ≤ 1024
      go (accepted p) e h =
          let l = (sound p (read-acceptable text p e)).limits in
          let r = first_refusal (test14 (both_of p) b ∷ []) in
          omega (arith, l.vertices, given (eqb r 0) r (vertex_count p) n h)
      go (refused k) e h = never (cc)
