-- The k-th level of a pass, and where the levels start. Assumes nothing.
use Prim.Native.Nat.{ℕ, zero, suc, ◌+◌, ◌-◌, ◌<◌, ◌≤◌}
use mathlib.Core.Path.{◌≡◌, refl, sym, ◌∙◌, ap}
use mathlib.Core.Bool.{Bool, true, false, cond}
use mathlib.Core.List.{List, [], ◌∷◌, reverse, reverse-append}
use native.Mathlib.Omega.{arith}
use borrow.Author.Tests.{eq-eqb, ne_eqb}
use lib.Dec.{eqb}
use lib.ListN.{length, get_or, take, set}
use lib.Seq.{get_or-set_same, get_or-set_other}
use Rattle.ints.specs.Lists.{sum}
use Rattle.plan.specs.Plan.{PlanData, numbers}
use Rattle.plan.proofs.CountLaws.{by-same}
use Rattle.passes.proofs.Sound.{Sound}
use Rattle.plan.specs.inner.Levels.{first_on}
use Rattle.plan.proofs.Levels.{numbers-snoc, length-numbers}
use Rattle.pass_neighbours.specs.inner.Order.{in_turn, turn_of, Starts}

-- ---- the order of the levels
down-at : (v n k : ℕ) → k < n → get_or (numbers v n) k 0 ≡ v + k
unfolding numbers
down-at v zero k h = absurd (omega arith)
down-at v (suc n) zero h = omega arith
down-at v (suc n) (suc k) h = omega (arith, down-at (v + 1) n k (omega arith))

up_more : (n : ℕ) → reverse (numbers 1 (suc n)) ≡ suc n ∷ reverse (numbers 1 n)
up_more n = ap reverse (numbers-snoc 1 n (suc n) (omega arith)) ∙ reverse-append (numbers 1 n) (suc n ∷ [])

up_at : (n k : ℕ) → k < n → get_or (reverse (numbers 1 n)) k 0 ≡ n - k
up_at zero k h = absurd (omega arith)
up_at (suc n) zero h = ap (λ (l : List ℕ). get_or l 0 0) (up_more n) ∙ omega arith
up_at (suc n) (suc k) h = ap (λ (l : List ℕ). get_or l (suc k) 0) (up_more n) ∙ omega (arith, up_at n k (omega arith))

up-length : (n : ℕ) → length (reverse (numbers 1 n)) ≡ n
unfolding numbers
up-length zero = refl
up-length (suc n) = ap length (up_more n) ∙ ap suc (up-length n)

pub turn_at : (q : ℕ) (p : PlanData) (k : ℕ) → k < p.levels → get_or (in_turn q p) k 0 ≡ suc (turn_of q k p.levels)
turn_at q p k h = go (eqb q 2)
  where
    go : (t : Bool) → get_or (cond t (reverse (numbers 1 p.levels)) (numbers 1 p.levels)) k 0 ≡ suc (cond t (p.levels - 1 - k) k)
    go true = omega (arith, up_at p.levels k h)
    go false = omega (arith, down-at 1 p.levels k h)

pub turn-length : (q : ℕ) (p : PlanData) → length (in_turn q p) ≡ p.levels
turn-length q p = go (eqb q 2)
  where
    go : (t : Bool) → length (cond t (reverse (numbers 1 p.levels)) (numbers 1 p.levels)) ≡ p.levels
    go true = up-length p.levels
    go false = length-numbers 1 p.levels

pub turn_small : (q k n : ℕ) → k < n → turn_of q k n < n
turn_small q k n h = go (eqb q 2)
  where
    go : (t : Bool) → cond t (n - 1 - k) k < n
    go true = omega arith
    go false = h

pub turn_up : (q k n : ℕ) → q ≡ 2 → n - 1 - k ≡ turn_of q k n
turn_up q k n e = rw (eq-eqb q 2 e)

pub turn-down : (q k n : ℕ) → (q ≡ 2 → ⊥) → k ≡ turn_of q k n
turn-down q k n e = rw (ne_eqb q 2 e)

-- ---- where the levels start
pub sum-front : (ns : List ℕ) (i : ℕ) → sum (take i ns) ≤ sum ns
unfolding sum
sum-front [] zero = omega arith
sum-front [] (suc i) = omega arith
sum-front (n ∷ ns) zero = omega arith
sum-front (n ∷ ns) (suc i) = omega (arith, sum-front ns i)

pub sum-none : (ns : List ℕ) → sum (take 0 ns) ≡ 0
unfolding sum
sum-none [] = refl
sum-none (n ∷ ns) = refl

pub starts_more : (ns starts : List ℕ) (i from : ℕ) → i + 1 < length starts → from ≡ sum (take (i + 1) ns) → ((j : ℕ) → j ≤ i → get_or starts j 0 ≡ sum (take j ns))
    → (j : ℕ) → j ≤ i + 1 → get_or (set starts (i + 1) from) j 0 ≡ sum (take j ns)
starts_more ns starts i from h e f j k = by-same j (i + 1)
    (λ z. ap (λ (u : ℕ). get_or (set starts (i + 1) from) u 0) z ∙ get_or-set_same starts (i + 1) from 0 h ∙ e ∙ ap (λ (u : ℕ). sum (take u ns)) (sym z))
    (λ z. get_or-set_other starts (i + 1) j from 0 z ∙ f j (omega (arith, z)))

pub starts_first : (ns starts : List ℕ) → 0 < length starts → (j : ℕ) → j ≤ 0 → get_or (set starts 0 0) j 0 ≡ sum (take j ns)
starts_first ns starts h zero k = get_or-set_same starts 0 0 0 h ∙ sym (sum-none ns)
starts_first ns starts h (suc j) k = absurd (omega arith)

pub starts-are : {p : PlanData} → Sound p → (ns starts : List ℕ) → ns ≡ p.sizes → length starts ≡ length ns + 1 → ((i : ℕ) → i ≤ length ns → get_or starts i 0 ≡ sum (take i ns)) → Starts p starts
unfolding first_on
starts-are {p} so ns starts e l f = let z = ap length e ∙ so.sizes in record {
  many = omega (arith, z);
  each = λ i h. let y : i ≡ suc i - 1 = omega arith in f i (omega (arith, z)) ∙ ap (λ (ms : List ℕ). sum (take i ms)) e ∙ ap (λ (n : ℕ). sum (take n p.sizes)) y;
}
