-- Reading with one more check after checks 1 to 5: what they refuse is refused alike, else the last decides. Assumes nothing.
use mathlib.Core.Path.{◌≡◌, refl, sym, ◌∙◌, ap}
use mathlib.Core.Bool.{Bool, true, false, cond}
use mathlib.Core.List.{List, [], ◌∷◌, ◌++◌}
use mathlib.Core.Option.{Option, none, some}
use Prim.Native.Nat.{ℕ}
use lib.Dec.{eqb}
use Rattle.ints.specs.Refusals.{Test, first_refusal, none_refuses}
use Rattle.ints.proofs.Refusals.{numbered, none-0, refusal-early, refusal-late}
use Rattle.ints.proofs.Tests.{test}
use Rattle.plan.specs.Plan.{PlanData}
use Rattle.plan.specs.Checks.{tangled_checks_of}
use Rattle.text.specs.Form.{Lines, form_of}
use Rattle.text.specs.Reading.{stored, tests_by, Reading, accepted, refused, read_as, reading_by, tangled_reading}
use Rattle.text.proofs.Words.{never}

-- what the last check makes of what the others read
abbrev pub lastly : (PlanData → Test) → Reading → Reading
lastly last (accepted p) = cond (last p).refuses (refused (last p).number) (accepted p)
lastly last (refused n) = refused n

module _ (last : PlanData → Test) (numbers : (p : PlanData) → eqb (last p).number 0 ≡ false) where
  -- the last of some tests, where the others refuse none
  decides : (p : PlanData) (b : Bool) → (last p).refuses ≡ b → let m = first_refusal (last p ∷ []) in
      cond (eqb m 0) (accepted p) (refused m) ≡ cond b (refused (last p).number) (accepted p)
  unfolding first_refusal
  decides p true e = rw (e, numbers p)
  decides p false e = rw e

  module _ (checks : PlanData → List Test) (s : List ℕ) where
    by_form : ((l : Lines) → numbered (tests_by checks s (some l)) ≡ true) → (o : Option Lines)
        → read_as (first_refusal (tests_by (λ p. checks p ++ last p ∷ []) s o)) o ≡ lastly last (read_as (first_refusal (tests_by checks s o)) o)
    unfolding tests_by
    by_form known none = refl
    by_form known (some l) =
        let p = stored l in
        let xs = tests_by checks s (some l) in
        let ys = last p ∷ [] in
        let read : ℕ → Reading = λ m. read_as m (some l) in
        test (none_refuses xs)
        (λ n. ap read (sym (refusal-late (first_refusal ys) xs ys n refl)) ∙ decides p (last p).refuses refl
        ∙ sym (ap (λ (b : Bool). lastly last (cond b (accepted p) (refused (first_refusal xs)))) (none-0 xs (known l) ∙ n)))
        (λ n. let z = none-0 xs (known l) ∙ n in
        ap read (sym (refusal-early (first_refusal xs) xs ys refl (λ e. never (sym z ∙ rw e))))
        ∙ ap (λ (b : Bool). cond b (accepted p) (refused (first_refusal xs))) z
        ∙ sym (ap (λ (b : Bool). lastly last (cond b (accepted p) (refused (first_refusal xs)))) z))

-- ---- after checks 1 to 5
module _ (s : List ℕ) where
  known : (l : Lines) → numbered (tests_by tangled_checks_of s (some l)) ≡ true
  unfolding tests_by tangled_checks_of
  known l = refl

  pub reads-lastly : (last : PlanData → Test) → ((p : PlanData) → eqb (last p).number 0 ≡ false)
      → reading_by (λ p. tangled_checks_of p ++ last p ∷ []) s ≡ lastly last (tangled_reading s)
  unfolding tangled_reading
  reads-lastly last numbers = by_form last numbers tangled_checks_of s known (form_of s)
