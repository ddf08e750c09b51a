-- Tests and sums of a whole list, and of what is left of it after the first i, as loops meet them. Assumes nothing.
use Prim.Native.Nat.{ℕ, zero, suc, ◌+◌, ◌-◌, ◌≤◌, ◌<◌}
use mathlib.Core.Path.{◌≡◌, refl, sym, ◌∙◌, ap}
use Rattle.std.proofs.Common.{IsTrue, EachIndex, ◌↔◌, Bool}
use Rattle.std.specs.Prelude.{sum as std_sum}
use Rattle.std.proofs.lemmas.List.Recursion.{is_sum_by}
use Rattle.report.proofs.SameData.{numbers-equal}
use Rattle.plan.proofs.Levels.{get-numbers}
use Rattle.report_validity.proofs.RunTests.{both_ways}
use mathlib.Core.Bool.{true}
use mathlib.Core.List.{List, [], ◌∷◌}
use native.Mathlib.Omega.{arith}
use borrow.Author.Tests.{eq-eqb, ne_eqb}
use lib.Dec.{eqb}
use lib.ListN.{length, get_or, take, drop}
use Rattle.ints.specs.Lists.{sum}
use Rattle.ints.proofs.Laws.{cases}
use Rattle.ints.proofs.Lists.{sum-on}
use Rattle.plan.specs.Plan.{numbers}
use Rattle.report.specs.Refusal13.{same_numbers}

-- ---- sums
pub sum-parts : (n : ℕ) (ns : List ℕ) → sum (take n ns) + sum (drop n ns) ≡ sum ns
unfolding sum
sum-parts zero ns = omega arith
sum-parts (suc n) [] = refl
sum-parts (suc n) (x ∷ ns) = omega (arith, sum-parts n ns)

-- those of the first levels and of the next are within all
pub next-within : (ns : List ℕ) (l start size n : ℕ) → l < length ns → start ≡ sum (take l ns) → size ≡ get_or ns l 0 → sum ns ≡ n → start + size ≤ n
next-within ns l start size n h e f g = omega (arith, sum-parts l ns, sum-on ns l h)

-- as `Iterator::sum` adds up
pub same_sum : (ns : List ℕ) → std_sum ns ≡ sum ns
unfolding sum
same_sum ns = sym (is_sum_by sum (λ n. n) refl (λ _ _. refl) ns)

-- ---- where a stretch from `first` on ends, by how many it has
pub ends-count : (end first count : ℕ) → first ≤ end → eqb (end - first) count ≡ eqb end (first + count)
ends-count end first count h = cases end (first + count)
    (λ j. cases (first + count) end
    (λ k. eq-eqb (end - first) count (omega arith) ∙ sym (eq-eqb end (first + count) (omega arith)))
    (λ k. ne_eqb (end - first) count (λ e. omega arith) ∙ sym (ne_eqb end (first + count) (λ e. omega arith))))
    (λ j. ne_eqb (end - first) count (λ e. omega arith) ∙ sym (ne_eqb end (first + count) (λ e. omega arith)))

-- ---- whether a list is f, f + 1 and so on
stretch-of : (bs : List ℕ) (f : ℕ) → ((k : ℕ) → k < length bs → get_or bs k 0 ≡ f + k) → same_numbers bs (numbers f (length bs)) ≡ true
unfolding same_numbers numbers
stretch-of [] f h = refl
stretch-of (b ∷ bs) f h = let e : b ≡ f = omega (arith, h 0 (omega arith)) in
    rw (eq-eqb b f e, stretch-of bs (f + 1) (λ k z. omega (arith, h (suc k) (omega arith))))

pub stretch_is : (bs : List ℕ) (f : ℕ) (b : Bool) → (IsTrue b ↔ EachIndex bs (λ k. get_or bs k 0 ≡ f + k)) → b ≡ same_numbers bs (numbers f (length bs))
stretch_is bs f b e = both_ways b (same_numbers bs (numbers f (length bs))) (λ h. stretch-of bs f (e.0 h))
    (λ h. e.1 (λ k z. ap (λ (l : List ℕ). get_or l k 0) (numbers-equal bs (numbers f (length bs)) h) ∙ get-numbers f (length bs) k 0 z))
