-- 13 of the plan and the remembered numbers, and of these and the drawing, as the program tests it.
use mathlib.Core.Path.{◌≡◌, refl}
use borrow.Author.Tests.{not-false}
use mathlib.Core.Bool.{true, false}
use mathlib.Core.List.{List, [], ◌∷◌}
use Prim.Native.Nat.{ℕ}
use Rattle.ints.specs.Refusals.{Test, check, first_refusal}
use Rattle.ints.proofs.Refusals.{none-at, none_found, refusal-early, refusal-late}
use Rattle.plan.specs.declared.data.Plan.{Plan}
use Rattle.report.specs.declared.data.Counts.{Counts}
use Rattle.report.specs.declared.data.Drawing.{Drawing as Arrays}
use Rattle.sheet_data.specs.inner.Parts.{is_plan_with, are_own_with, is_drawing_with}
use Rattle.sheet.specs.inner.Refusals.{plan_refusal, data_refusal}

module _ (p : Plan) (m : List ℕ) (c : Counts) where
  pub no-plan : is_plan_with p c ≡ false → 13 ≡ plan_refusal p m c
  unfolding plan_refusal first_refusal
  no-plan h = rw h

  pub no-numbers : is_plan_with p c ≡ true → are_own_with p m c ≡ false → 13 ≡ plan_refusal p m c
  unfolding plan_refusal first_refusal
  no-numbers h k = rw (h, k)

  pub both : is_plan_with p c ≡ true → are_own_with p m c ≡ true → 0 ≡ plan_refusal p m c
  unfolding plan_refusal first_refusal
  both h k = rw (h, k)

-- the tests of the plan and the numbers, and what the drawing adds to them
module _ (p : Plan) (m : List ℕ) (d : Arrays) (c : Counts) (n : ℕ) (e : n ≡ plan_refusal p m c) where
  abbrev tests : List Test
  tests = check 13 (is_plan_with p c) ∷ check 13 (are_own_with p m c) ∷ []

  pub refused-early : (n ≡ 0 → ⊥) → n ≡ data_refusal p m d c
  unfolding plan_refusal data_refusal
  refused-early z = refusal-early n tests (check 13 (is_drawing_with p d c) ∷ []) e z

  module _ (z : n ≡ 0) where
    pub plan-holds : is_plan_with p c ≡ true
    unfolding plan_refusal
    plan-holds = not-false (is_plan_with p c) (none-at tests (none_found n tests refl e z) 0)

    pub refused-late : (k : ℕ) → k ≡ first_refusal (check 13 (is_drawing_with p d c) ∷ []) → k ≡ data_refusal p m d c
    unfolding plan_refusal data_refusal
    refused-late k h = refusal-late k tests (check 13 (is_drawing_with p d c) ∷ []) (none_found n tests refl e z) h

    pub no-drawing : is_drawing_with p d c ≡ false → 13 ≡ data_refusal p m d c
    unfolding first_refusal
    no-drawing h = refused-late 13 (rw h)

    pub all : is_drawing_with p d c ≡ true → 0 ≡ data_refusal p m d c
    unfolding first_refusal
    all h = refused-late 0 (rw h)
