-- The two ways of reading side by side: what the first takes the second takes for the same plan, what the first refuses with 6 the second
-- takes, and all else is refused alike. Assumes nothing.
use mathlib.Core.Path.{◌≡◌, refl, sym, ◌∙◌}
use mathlib.Core.Bool.{true, false}
use mathlib.Core.List.{List, [], ◌∷◌, ◌++◌}
use mathlib.Core.Logic.{◌↔◌}
use mathlib.Core.Option.{Option, none, some}
use Prim.Native.Nat.{ℕ}
use borrow.Author.Tests.{ne_eqb}
use lib.Dec.{eqb}
use Rattle.ints.specs.Refusals.{check, is_first, none_refuses}
use Rattle.ints.proofs.Refusals.{last-first, last-other, none-append}
use Rattle.ints.proofs.Tests.{and_left}
use Rattle.plan.specs.Plan.{PlanData}
use Rattle.plan.specs.Checks.{check6, checks_of, tangled_checks_of}
use Rattle.text.specs.Form.{Lines, form_of}
use Rattle.text.specs.Reading.{stored, tests_by, tests_of, accepted, refused, reading, tangled_reading}
use Rattle.text.proofs.Words.{never}
use Rattle.text.proofs.WhenRefused.{read-refused, read-passed, tangled-refused, tangled-passed, tangled-given}

module _ (s : List ℕ) where
  -- check 6 comes after the others
  tests-6 : (l : Lines) → tests_of s (some l) ≡ tests_by tangled_checks_of s (some l) ++ (check 6 (check6 (stored l)) ∷ [])
  unfolding tests_by checks_of tangled_checks_of
  tests-6 l = refl

  none-5 : (o : Option Lines) → none_refuses (tests_of s o) ≡ true → none_refuses (tests_by tangled_checks_of s o) ≡ true
  unfolding tests_by
  none-5 none e = e
  none-5 (some l) e =
      let ts = tests_by tangled_checks_of s (some l) in
      let last = check 6 (check6 (stored l)) ∷ [] in
      and_left (none_refuses ts) (none_refuses last) (sym (none-append ts last) ∙ rw (tests-6 l) at e)

  first-6 : (o : Option Lines) → is_first 6 (tests_of s o) ≡ true → none_refuses (tests_by tangled_checks_of s o) ≡ true
  unfolding tests_by tangled_checks_of checks_of is_first
  first-6 none e = never e
  first-6 (some l) e = last-first (check 6 (check6 (stored l))) (tests_by tangled_checks_of s (some l)) refl e

  first-other : (m : ℕ) → eqb 6 m ≡ false → (o : Option Lines) → is_first m (tests_of s o) ≡ is_first m (tests_by tangled_checks_of s o)
  unfolding tests_by tangled_checks_of checks_of
  first-other m n none = refl
  first-other m n (some l) = last-other (check 6 (check6 (stored l))) m n (tests_by tangled_checks_of s (some l))

  pub taken-both : (p : PlanData) → reading s ≡ accepted p → tangled_reading s ≡ accepted p
  taken-both p e =
      let r = (read-passed s p).0 e in
      (tangled-passed s p).1 (record { lines = r.lines; form = r.form; stores = r.stores; passed = none-5 (form_of s) r.passed })

  pub refused-6 : reading s ≡ refused 6 → (p : PlanData) × (tangled_reading s ≡ accepted p)
  refused-6 e = (tangled-given s).1 (first-6 (form_of s) ((read-refused s 6).0 e))

  pub refused-else : (m : ℕ) → (m ≡ 6 → ⊥) → (reading s ≡ refused m) ↔ (tangled_reading s ≡ refused m)
  refused-else m z =
      let same = first-other m (ne_eqb 6 m (λ e. z (sym e))) (form_of s) in
      (λ e. (tangled-refused s m).1 (sym same ∙ (read-refused s m).0 e), λ e. (read-refused s m).1 (same ∙ (tangled-refused s m).0 e))
