-- A text loaded by E1's way and given back, by what the load answered; an accepted text is itself again.
use mathlib.Core.Path.{◌≡◌, refl, sym, ◌∙◌, ap}
use mathlib.Core.List.{List}
use Prim.Native.Nat.{ℕ, ◌≤◌}
use native.Mathlib.Omega.{arith}
use lib.Dec.{eqb}
use lib.ListN.{length}
use Rattle.std.specs.Prelude.{Result, Ok, Err}
use Rattle.ints.specs.Refusals.{first_refusal, number_of, Verdict, gives, refuses, verdict_of}
use Rattle.ints.specs.declared.refusal.Refusal.{Refusal}
use Rattle.plan.specs.Plan.{PlanData}
use Rattle.text.specs.Reading.{accepted, tangled_reading}
use Rattle.text.proofs.Words.{never}
use Rattle.text.proofs.RoundTrip.{limits-short, written-tangled, tangled-limits, tangled-through}
use Rattle.text_write.specs.inner.Data.{max_text}
use Rattle.sheet.specs.declared.types.Sheet.{Sheet}
use Rattle.sheet.specs.Sheet.{empty_sheet}
use Rattle.sheet.specs.Tests.{whole_text_of}
use Rattle.sheet.specs.Calls.{TextOut, Leaves, load_tangled, whole_text_tests, whole_text}
use Rattle.sheet.proofs.WhenRefused.{tangled-read, given}
use Rattle.sheet.proofs.GivenBack.{written, just-loaded, text-again, given_back}
use Rattle.sheet_text.specs.Back.{back_of, text_back}

-- ---- by the answer of the load
module _ (text b : List ℕ) {a : Result Unit Refusal} {s : Sheet} (l : Leaves (load_tangled empty_sheet text) a s) where
  back_by : text_back text b ≡ back_of (verdict_of a) s b
  unfolding text_back
  back_by = rw (l.answered, l.left)

  pub back-accepted : a ≡ Ok tt → text_back text b ≡ whole_text s b
  back-accepted e = back_by ∙ ap (λ (x : Result Unit Refusal). back_of (verdict_of x) s b) e

  pub back-refused : (r : Refusal) → a ≡ Err r → text_back text b ≡ record { result = refuses (number_of r); buffer = b }
  back-refused r e = back_by ∙ ap (λ (x : Result Unit Refusal). back_of (verdict_of x) s b) e

whole-given : (s : Sheet) (b : List ℕ) (n : ℕ) → (whole_text s b).result ≡ gives n → length (whole_text_of s) ≡ n
unfolding whole_text
whole-given s b n e = given (eqb (first_refusal (whole_text_tests s b)) 0) (first_refusal (whole_text_tests s b)) (length (whole_text_of s)) n e

-- ---- "gives the input again, for every accepted plan"
module _ (text : List ℕ) (p : PlanData) (e : tangled_reading text ≡ accepted p) where
  loaded : (load_tangled empty_sheet text).result ≡ gives tt
  loaded = (tangled-read empty_sheet text).1 (p, e)

  taken : (b : List ℕ) → text_back text b ≡ whole_text (load_tangled empty_sheet text).sheet b
  unfolding text_back
  taken b = ap (λ (r : Verdict Unit). back_of r (load_tangled empty_sheet text).sheet b) loaded

  pub back-again : (b : List ℕ) → length text ≤ length b → text_back text b ≡ written text b
  back-again b m = taken b ∙ given_back text p e empty_sheet b m

  -- how long it is
  short : length text ≤ max_text
  short = let c = tangled-through text p e in rw (written-tangled text p e) at (limits-short p (tangled-limits text p e) c.three)

  pub taken-few : (b : List ℕ) (n : ℕ) → (text_back text b).result ≡ gives n → n ≤ max_text
  taken-few b n h =
      let s = (load_tangled empty_sheet text).sheet in
      let f : (whole_text s b).result ≡ gives n = ap (λ (o : TextOut). o.result) (sym (taken b)) ∙ h in
      omega (arith, whole-given s b n f, ap length (text-again text p e (just-loaded text p e empty_sheet)), short)

pub back-few : (text b : List ℕ) (n : ℕ) → (text_back text b).result ≡ gives n → n ≤ max_text
unfolding text_back
back-few text b n h = go (load_tangled empty_sheet text).result refl
  where
    go : (r : Verdict Unit) → (load_tangled empty_sheet text).result ≡ r → n ≤ max_text
    go (gives u) e = let r = (tangled-read empty_sheet text).0 e in taken-few text r.0 r.1 b n h
    go (refuses m) e = never (let f : refuses m ≡ gives n = ap (λ (x : Verdict Unit). (back_of x (load_tangled empty_sheet text).sheet b).result) (sym e) ∙ h in cc)
