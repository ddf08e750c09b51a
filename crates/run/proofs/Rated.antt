-- The ratings of the neighbours at or left of a place, as a program sums them; less an offset. Assumes nothing.
use mathlib.Core.Path.{◌≡◌, refl, ◌∙◌, ap}
use mathlib.Core.List.{List, [], ◌∷◌, map}
use Prim.Native.Nat.{ℕ, zero, suc, ◌+◌, ◌*◌, ◌≤◌, ◌<◌}
use native.Mathlib.Omega.{arith}
use lib.ListN.{length, get_or, take}
use borrow.Author.Tests.{le-leb, lt-leb}
use lib.IntN.{ℤ}
use Rattle.ints.specs.Ints.{◌⊏◌}
use Rattle.ints.proofs.Laws.{make-lt-true, make-lt-false, cases_z}
use Rattle.run.specs.Run.{Bound, at, Lead, lead_positions, total_rating, first_reaching}
use Rattle.run.specs.inner.Coordinates.{less, count_up_to, rated_up_to, less_lead}
use Rattle.run.proofs.Sorted.{Sorted, sorted-cons, count_none}

-- ---- the ratings of those at most m
pub rated-bound : (m : ℤ) (ns : List Lead) → rated_up_to m ns ≤ total_rating ns
unfolding rated_up_to total_rating
rated-bound m [] = omega arith
rated-bound m (n ∷ ns) = let w = rated-bound m ns in
    cases_z n.at m (λ k. rw (make-lt-false m n.at k) (omega arith)) (λ k. rw (make-lt-true m n.at k) (omega arith))

pub rated-none : (m l : ℤ) (ns : List Lead) → m ⊏ l → Sorted (at l) (lead_positions ns) → rated_up_to m ns ≡ 0
unfolding rated_up_to
rated-none m l [] h r = refl
rated-none m l (n ∷ ns) h (sorted-cons o r) = rw (make-lt-true m n.at (omega arith)) (omega (arith, rated-none m n.at ns (omega arith) r))

-- they are the ratings of the first ones, as many as are at most m: a program counts by index and takes a sum of ratings so far
pub rated-is : {lo : Bound} (m : ℤ) (ns : List Lead) → Sorted lo (lead_positions ns) → rated_up_to m ns ≡ total_rating (take (count_up_to m (lead_positions ns)) ns)
unfolding rated_up_to count_up_to total_rating
rated-is m [] r = refl
rated-is m (n ∷ ns) (sorted-cons o r) = let c = count_up_to m (lead_positions ns) in let e : suc c ≡ 1 + c = omega arith in cases_z n.at m
    (λ k. rw (make-lt-false m n.at k) (ap (λ (z : ℕ). n.rating + z) (rated-is m ns r) ∙ ap (λ (i : ℕ). total_rating (take i (n ∷ ns))) e))
    (λ k. rw (make-lt-true m n.at k, rated-none m n.at ns k r, count_none m n.at (lead_positions ns) k r))

-- ---- the first neighbour at which twice the ratings so far reach t, by its index: twice the ratings before it are below t, and with its own they reach t
pub reaching-at : (t a : ℕ) (old : ℤ) (ns : List Lead) (i : ℕ) → i < length ns → 2 * (a + total_rating (take i ns)) < t → t ≤ 2 * (a + total_rating (take (suc i) ns))
    → first_reaching t a old ns ≡ get_or (lead_positions ns) i old
unfolding total_rating first_reaching
reaching-at t a old [] i h j k = absurd (omega arith)
reaching-at t a old (n ∷ ns) zero h j k = rw (le-leb t (2 * (a + n.rating)) (omega arith))
reaching-at t a old (n ∷ ns) (suc i) h j k = rw (lt-leb t (2 * (a + n.rating)) (omega arith)) (reaching-at t (a + n.rating) old ns i (omega arith) (omega arith) (omega arith))

-- ---- less an offset
pub positions-less : (o : ℕ) (ns : List Lead) → lead_positions (map (less_lead o) ns) ≡ map (less o) (lead_positions ns)
positions-less o [] = refl
positions-less o (n ∷ ns) = ap (λ xs. less o n.at ∷ xs) (positions-less o ns)

pub total-less : (o : ℕ) (ns : List Lead) → total_rating (map (less_lead o) ns) ≡ total_rating ns
unfolding total_rating
total-less o [] = refl
total-less o (n ∷ ns) = omega (arith, total-less o ns)
