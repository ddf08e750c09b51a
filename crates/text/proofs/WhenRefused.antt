-- When a text is refused and by which number, both ways: by the first of its checks that fails; 1 to 6, and 1 to 5 the second way.
use mathlib.Core.Path.{◌≡◌, refl, sym, ap}
use mathlib.Core.Bool.{Bool, true, false, cond}
use mathlib.Core.List.{List}
use mathlib.Core.Logic.{◌↔◌}
use mathlib.Core.Option.{Option, none, some}
use Prim.Native.Nat.{ℕ}
use borrow.Author.Tests.{eqb-true, eq-eqb}
use lib.Dec.{eqb}
use Rattle.ints.specs.Refusals.{Test, first_refusal, is_first, none_refuses}
use Rattle.ints.proofs.Refusals.{numbered, none-0, refused-first}
use Rattle.plan.specs.Plan.{PlanData}
use Rattle.plan.specs.Checks.{checks_of, tangled_checks_of}
use Rattle.text.specs.Form.{Lines, form_of}
use Rattle.text.specs.Reading.{stored, tests_by, tests_of, text_tests, accepted, refused, read_as, reading, tangled_reading}
use Rattle.text.proofs.Words.{never}

-- A text whose tests are none refused, and what its lines store.
pub record Reads (checks : PlanData → List Test) (s : List ℕ) (o : Option Lines) (p : PlanData) : Type 0 where
  pub lines : Lines
  pub form : o ≡ some lines
  pub stores : stored lines ≡ p
  pub passed : none_refuses (tests_by checks s o) ≡ true

-- Of any checks that have numbers.
module _ (checks : PlanData → List Test) (s : List ℕ) (numbers : (l : Lines) → numbered (tests_by checks s (some l)) ≡ true) where
  pub by-refused : (o : Option Lines) (m : ℕ) → (read_as (first_refusal (tests_by checks s o)) o ≡ refused m) ↔ (is_first m (tests_by checks s o) ≡ true)
  unfolding tests_by first_refusal is_first
  by-refused none m = (λ e. eq-eqb 1 m (cc), λ e. ap refused (eqb-true 1 m e))
  by-refused (some l) m =
      refused-first (accepted (stored l)) refused (λ m e. never (cc)) (λ m n e. cc) (tests_by checks s (some l)) (numbers l) m

  -- It is read exactly if none fails, and then as what its lines store.
  reads_of : (o : Option Lines) (p : PlanData) → read_as (first_refusal (tests_by checks s o)) o ≡ accepted p → Reads checks s o p
  reads_of none p e = never (cc)
  reads_of (some l) p e = by (eqb (first_refusal (tests_by checks s (some l))) 0) (none-0 (tests_by checks s (some l)) (numbers l)) e
    where
      by : (b : Bool) → b ≡ none_refuses (tests_by checks s (some l))
          → cond b (accepted (stored l)) (refused (first_refusal (tests_by checks s (some l)))) ≡ accepted p → Reads checks s (some l) p
      by true n e = record { lines = l; form = refl; stores = cc; passed = sym n }
      by false n e = never (cc)

  reads_as : (o : Option Lines) (p : PlanData) → Reads checks s o p → read_as (first_refusal (tests_by checks s o)) o ≡ accepted p
  reads_as none p r = never (cc r.form)
  reads_as (some l) p r =
      let same : stored l ≡ p = let f = r.form in let g = r.stores in cc in
      rw (none-0 (tests_by checks s (some l)) (numbers l), r.passed) (ap accepted same)

  by-passed : (o : Option Lines) (p : PlanData) → (read_as (first_refusal (tests_by checks s o)) o ≡ accepted p) ↔ Reads checks s o p
  by-passed o p = (reads_of o p, reads_as o p)

  passes-as : (o : Option Lines) → none_refuses (tests_by checks s o) ≡ true → (p : PlanData) × Reads checks s o p
  unfolding tests_by none_refuses
  passes-as none e = never e
  passes-as (some l) e = (stored l, record { lines = l; form = refl; stores = refl; passed = e })

  pub by-given : (o : Option Lines) → ((p : PlanData) × (read_as (first_refusal (tests_by checks s o)) o ≡ accepted p)) ↔ (none_refuses (tests_by checks s o) ≡ true)
  by-given o = (λ r. (reads_of o r.0 r.1).passed, λ e. let r = passes-as o e in (r.0, reads_as o r.0 r.1))

module _ (s : List ℕ) where
  -- ---- checks 1 to 6
  numbers : (l : Lines) → numbered (tests_of s (some l)) ≡ true
  unfolding tests_by checks_of
  numbers l = refl

  pub read-refused : (m : ℕ) → (reading s ≡ refused m) ↔ (is_first m (text_tests s) ≡ true)
  unfolding reading
  read-refused m = by-refused checks_of s numbers (form_of s) m

  pub read-1 : (reading s ≡ refused 1) ↔ (is_first 1 (text_tests s) ≡ true)
  read-1 = read-refused 1

  pub read-2 : (reading s ≡ refused 2) ↔ (is_first 2 (text_tests s) ≡ true)
  read-2 = read-refused 2

  pub read-3 : (reading s ≡ refused 3) ↔ (is_first 3 (text_tests s) ≡ true)
  read-3 = read-refused 3

  pub read-4 : (reading s ≡ refused 4) ↔ (is_first 4 (text_tests s) ≡ true)
  read-4 = read-refused 4

  pub read-5 : (reading s ≡ refused 5) ↔ (is_first 5 (text_tests s) ≡ true)
  read-5 = read-refused 5

  pub read-6 : (reading s ≡ refused 6) ↔ (is_first 6 (text_tests s) ≡ true)
  read-6 = read-refused 6

  pub read-passed : (p : PlanData) → (reading s ≡ accepted p) ↔ Reads checks_of s (form_of s) p
  unfolding reading
  read-passed p = by-passed checks_of s numbers (form_of s) p

  pub read-given : ((p : PlanData) × (reading s ≡ accepted p)) ↔ (none_refuses (text_tests s) ≡ true)
  unfolding reading
  read-given = by-given checks_of s numbers (form_of s)

  -- ---- the second way, checks 1 to 5
  abbrev pub tangled_tests : List Test
  tangled_tests = tests_by tangled_checks_of s (form_of s)

  numbers-5 : (l : Lines) → numbered (tests_by tangled_checks_of s (some l)) ≡ true
  unfolding tests_by tangled_checks_of
  numbers-5 l = refl

  pub tangled-refused : (m : ℕ) → (tangled_reading s ≡ refused m) ↔ (is_first m tangled_tests ≡ true)
  unfolding tangled_reading
  tangled-refused m = by-refused tangled_checks_of s numbers-5 (form_of s) m

  pub tangled-passed : (p : PlanData) → (tangled_reading s ≡ accepted p) ↔ Reads tangled_checks_of s (form_of s) p
  unfolding tangled_reading
  tangled-passed p = by-passed tangled_checks_of s numbers-5 (form_of s) p

  pub tangled-given : ((p : PlanData) × (tangled_reading s ≡ accepted p)) ↔ (none_refuses tangled_tests ≡ true)
  unfolding tangled_reading
  tangled-given = by-given tangled_checks_of s numbers-5 (form_of s)
