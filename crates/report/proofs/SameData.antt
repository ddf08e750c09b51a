-- The test whether two plans' data are the same is true exactly if they are equal.
use mathlib.Core.Path.{◌≡◌, refl}
use mathlib.Core.Bool.{Bool, true, false}
use mathlib.Core.List.{List, [], ◌∷◌}
use Prim.Native.Nat.{ℕ}
use borrow.Author.Tests.{eqb-true, eq-eqb}
use lib.Dec.{eqb}
use Rattle.plan.specs.Plan.{PlanData}
use Rattle.ints.proofs.Tests.{conj-at, test, ◌and◌}
use Rattle.report.specs.Refusal13.{same_numbers, same_kinds, same_data}
use Rattle.text.proofs.Words.{never}

pub numbers-equal : (ms ns : List ℕ) → same_numbers ms ns ≡ true → ms ≡ ns
unfolding same_numbers
numbers-equal [] [] e = refl
numbers-equal [] (n ∷ ns) e = never e
numbers-equal (m ∷ ms) [] e = never e
numbers-equal (m ∷ ms) (n ∷ ns) e = test (eqb m n)
    (λ c. rw (eqb-true m n c, numbers-equal ms ns (rw c at e)))
    (λ c. never (rw c at e))

pub numbers-same : (ns : List ℕ) → same_numbers ns ns ≡ true
unfolding same_numbers
numbers-same [] = refl
numbers-same (n ∷ ns) = rw (eq-eqb n n refl, numbers-same ns)

kinds-equal : (ms ns : List Bool) → same_kinds ms ns ≡ true → ms ≡ ns
unfolding same_kinds
kinds-equal [] [] e = refl
kinds-equal [] (n ∷ ns) e = never e
kinds-equal (m ∷ ms) [] e = never e
kinds-equal (true ∷ ms) (true ∷ ns) e = rw (kinds-equal ms ns e)
kinds-equal (true ∷ ms) (false ∷ ns) e = never e
kinds-equal (false ∷ ms) (true ∷ ns) e = never e
kinds-equal (false ∷ ms) (false ∷ ns) e = rw (kinds-equal ms ns e)

kinds-same : (ns : List Bool) → same_kinds ns ns ≡ true
unfolding same_kinds
kinds-same [] = refl
kinds-same (true ∷ ns) = kinds-same ns
kinds-same (false ∷ ns) = kinds-same ns

-- the tests of `same_data` after the first
abbrev further_same : PlanData → PlanData → List Bool
further_same p q =
    eqb p.gap q.gap ∷ eqb p.spacing q.spacing
    ∷ same_numbers p.sizes q.sizes ∷ same_kinds p.vias q.vias ∷ same_numbers p.halves q.halves
    ∷ same_numbers p.uppers q.uppers ∷ same_numbers p.lowers q.lowers ∷ same_numbers p.ratings q.ratings ∷ []

pub data-equal : (p q : PlanData) → same_data p q ≡ true → p ≡ q
unfolding same_data
data-equal p q e =
    let test = conj-at (eqb p.levels q.levels) (further_same p q) e in
    λ i. record {
      levels = eqb-true p.levels q.levels (test 0) i;
      gap = eqb-true p.gap q.gap (test 1) i;
      spacing = eqb-true p.spacing q.spacing (test 2) i;
      sizes = numbers-equal p.sizes q.sizes (test 3) i;
      vias = kinds-equal p.vias q.vias (test 4) i;
      halves = numbers-equal p.halves q.halves (test 5) i;
      uppers = numbers-equal p.uppers q.uppers (test 6) i;
      lowers = numbers-equal p.lowers q.lowers (test 7) i;
      ratings = numbers-equal p.ratings q.ratings (test 8) i;
    }

pub data-same : (p : PlanData) → same_data p p ≡ true
unfolding same_data
data-same p =
    eq-eqb p.levels p.levels refl and eq-eqb p.gap p.gap refl and eq-eqb p.spacing p.spacing refl
    and numbers-same p.sizes and kinds-same p.vias and numbers-same p.halves
    and numbers-same p.uppers and numbers-same p.lowers and numbers-same p.ratings
