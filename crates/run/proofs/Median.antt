-- The sideways length of one box is convex in its position, and least at any place from the lower to the upper middle
-- neighbour; how it changes by a half step. Assumes nothing.
use mathlib.Core.Path.{◌≡◌, refl, ap}
use mathlib.Core.List.{List, [], ◌∷◌}
use Prim.Native.Nat.{ℕ, ◌+◌, ◌*◌, ◌≤◌, ◌<◌}
use native.Mathlib.Omega.{arith}
use native.Mathlib.Nat.{mul-le-mul_left}
use lib.Dec.{leb}
use borrow.Author.Tests.{leb-true, leb-false}
use lib.IntN.{ℤ, pos, ◌+ℤ◌, ◌-ℤ◌}
use Rattle.ints.specs.Ints.{◌⊑◌, ◌⊏◌, gap}
use Rattle.ints.proofs.Laws.{sum, dif, cases, cases_z, if-ind, eq-make, gap-ge, gap-r, gap-l, make-lt-true, make-lt-false}
use Rattle.run.specs.Run.{Bound, at, Lead, lead_positions, total_rating, first_reaching, lower_middle, upper_middle, start_of}
use Rattle.run.specs.Words.{sideways}
use Rattle.run.proofs.Feasible.{Convex}
use Rattle.run.proofs.HalfDown.{half-above, half-below}
use Rattle.run.proofs.Sorted.{Sorted, sorted-cons}
use Rattle.run.specs.inner.Coordinates.{rated_up_to}
use Rattle.run.proofs.Rated.{rated-bound, rated-none}

-- ---- convex
gap-inner : (u v n : ℤ) → u ⊏ v → gap (u +ℤ pos 1) n + gap (v -ℤ pos 1) n ≤ gap u n + gap v n
gap-inner u v n h = let s = sum u (pos 1) in let d = dif v (pos 1) in let a = gap-ge u n in let b = gap-ge v n in
    cases_z n u
    (λ k. omega (arith, gap-r (u +ℤ pos 1) n (omega arith), gap-r (v -ℤ pos 1) n (omega arith)))
    (λ k. cases_z v n
    (λ j. omega (arith, gap-l (u +ℤ pos 1) n (omega arith), gap-l (v -ℤ pos 1) n (omega arith)))
    (λ j. omega (arith, gap-l (u +ℤ pos 1) n (omega arith), gap-r (v -ℤ pos 1) n (omega arith))))

pub sideways-inner : (ns : List Lead) (u v : ℤ) → u ⊏ v → sideways ns (u +ℤ pos 1) + sideways ns (v -ℤ pos 1) ≤ sideways ns u + sideways ns v
unfolding sideways
sideways-inner [] u v h = omega arith
sideways-inner (n ∷ ns) u v h = omega (arith, mul-le-mul_left n.rating (gap-inner u v n.at h), sideways-inner ns u v h)

-- ---- one half step, for one neighbour
right-longer : (m n : ℤ) → n ⊑ m → gap (m +ℤ pos 1) n ≡ gap m n + 1
right-longer m n h = let s = sum m (pos 1) in omega (arith, gap-r m n h, gap-r (m +ℤ pos 1) n (omega arith))

right-shorter : (m n : ℤ) → m ⊏ n → gap (m +ℤ pos 1) n + 1 ≡ gap m n
right-shorter m n h = let s = sum m (pos 1) in omega (arith, gap-l m n (omega arith), gap-l (m +ℤ pos 1) n (omega arith))

-- for all neighbours of a box: more by the ratings of those at or left of m, less by the ratings of those right of it
pub right-count : (ns : List Lead) (m : ℤ) → sideways ns (m +ℤ pos 1) + total_rating ns ≡ sideways ns m + rated_up_to m ns + rated_up_to m ns
unfolding sideways total_rating rated_up_to
right-count [] m = refl
right-count (n ∷ ns) m = let w = right-count ns m in cases_z n.at m
    (λ k. rw (make-lt-false m n.at k) (omega (arith, ap (λ (z : ℕ). n.rating * z) (right-longer m n.at k))))
    (λ k. rw (make-lt-true m n.at k) (omega (arith, ap (λ (z : ℕ). n.rating * z) (right-shorter m n.at k))))

-- ---- the first neighbour at which twice the ratings so far reach t
reach-right : (t a : ℕ) (l old : ℤ) (ns : List Lead) → Sorted (at l) (lead_positions ns) → 2 * a < t → t ≤ 2 * (a + total_rating ns) → l ⊑ first_reaching t a old ns
unfolding total_rating first_reaching
reach-right t a l old [] r h k = absurd (omega arith)
reach-right t a l old (n ∷ ns) (sorted-cons o r) h k = let b = a + n.rating in
    if-ind (leb t (2 * b)) n.at (first_reaching t b old ns) (λ z. l ⊑ z) (λ e. o)
    (λ e. omega (arith, reach-right t b n.at old ns r (leb-false t (2 * b) e) (omega arith)))

-- from there on they reach it
reached : {lo : Bound} (t a : ℕ) (old m : ℤ) (ns : List Lead) → Sorted lo (lead_positions ns) → t ≤ 2 * (a + total_rating ns) → first_reaching t a old ns ⊑ m → t ≤ 2 * (a + rated_up_to m ns)
unfolding total_rating first_reaching rated_up_to
reached t a old m [] r h = λ k. h
reached t a old m (n ∷ ns) (sorted-cons o r) h = let b = a + n.rating in
    if-ind (leb t (2 * b)) n.at (first_reaching t b old ns) (λ z. z ⊑ m → t ≤ 2 * (a + rated_up_to m (n ∷ ns)))
    (λ e k. let i = leb-true t (2 * b) e in rw (make-lt-false m n.at k) (omega arith))
    (λ e k. let i = reach-right t b n.at old ns r (leb-false t (2 * b) e) (omega arith) in
    rw (make-lt-false m n.at (omega arith)) (omega (arith, reached t b old m ns r (omega arith) k)))

-- and before it they do not
before : {lo : Bound} (t a : ℕ) (old m : ℤ) (ns : List Lead) → Sorted lo (lead_positions ns) → 2 * a < t → m ⊏ first_reaching t a old ns → 2 * (a + rated_up_to m ns) < t
unfolding first_reaching rated_up_to
before t a old m [] r h = λ k. omega arith
before t a old m (n ∷ ns) (sorted-cons o r) h = let b = a + n.rating in
    if-ind (leb t (2 * b)) n.at (first_reaching t b old ns) (λ z. m ⊏ z → 2 * (a + rated_up_to m (n ∷ ns)) < t)
    (λ e k. rw (make-lt-true m n.at k) (omega (arith, rated-none m n.at ns k r)))
    (λ e k. let i = before t b old m ns r (leb-false t (2 * b) e) k in
    cases_z n.at m (λ j. rw (make-lt-false m n.at j) (omega arith)) (λ j. rw (make-lt-true m n.at j) (omega arith)))

-- more is reached no earlier
reach-mono : {lo : Bound} (t u a : ℕ) (old : ℤ) (ns : List Lead) → Sorted lo (lead_positions ns) → t ≤ u → u ≤ 2 * (a + total_rating ns) → 2 * a < t → first_reaching t a old ns ⊑ first_reaching u a old ns
unfolding total_rating first_reaching
reach-mono t u a old [] r h k j = omega arith
reach-mono t u a old (n ∷ ns) (sorted-cons o r) h k j = let b = a + n.rating in
    if-ind (leb t (2 * b)) n.at (first_reaching t b old ns) (λ z. z ⊑ first_reaching u a old (n ∷ ns))
    (λ e. if-ind (leb u (2 * b)) n.at (first_reaching u b old ns) (λ z. n.at ⊑ z) (λ f. omega arith)
    (λ f. reach-right u b n.at old ns r (leb-false u (2 * b) f) (omega arith)))
    (λ e. let i = leb-false t (2 * b) e in if-ind (leb u (2 * b)) n.at (first_reaching u b old ns) (λ z. first_reaching t b old ns ⊑ z)
    (λ f. absurd (omega (arith, leb-true u (2 * b) f))) (λ f. reach-mono t u b old ns r h (omega arith) i))

middles-ordered : {lo : Bound} (old : ℤ) (ns : List Lead) → Sorted lo (lead_positions ns) → 0 < total_rating ns → lower_middle old ns ⊑ upper_middle old ns
middles-ordered old ns r h = reach-mono (total_rating ns) (total_rating ns + 1) 0 old ns r (omega arith) (omega arith) (omega arith)

-- ---- any start from the lower to the upper middle neighbour
pub between-convex : {lo : Bound} (old m : ℤ) (ns : List Lead) → Sorted lo (lead_positions ns) → lower_middle old ns ⊑ m → m ⊑ upper_middle old ns → Convex (record { cost = sideways ns; start = m })
between-convex old m ns r hl hu = let w = dif m (pos 1) in let p = m -ℤ pos 1 in let e : p +ℤ pos 1 ≡ m = eq-make _ _ (omega (arith, sum p (pos 1))) in record {
  inner = λ u v h. sideways-inner ns u v h;
  left = omega (arith, ap (sideways ns) e, right-count ns p, before (total_rating ns + 1) 0 old p ns r (omega arith) (omega arith));
  right = omega (arith, right-count ns m, reached (total_rating ns) 0 old m ns r (omega arith) hl);
}

-- in particular half their sum; where nothing is rated, as with no neighbours, any start will do
pub start-convex : {lo : Bound} (old : ℤ) (ns : List Lead) → Sorted lo (lead_positions ns) → Convex (record { cost = sideways ns; start = start_of old ns })
unfolding start_of
start-convex old ns r = let l = lower_middle old ns in let u = upper_middle old ns in let R = total_rating ns in cases R 0
    (λ z. let m = start_of old ns in let p = m -ℤ pos 1 in let e : p +ℤ pos 1 ≡ m = eq-make _ _ (omega (arith, dif m (pos 1), sum p (pos 1))) in record {
      inner = λ u v h. sideways-inner ns u v h;
      left = omega (arith, ap (sideways ns) e, right-count ns p, rated-bound p ns);
      right = omega (arith, right-count ns m, rated-bound m ns);
    })
    (λ z. let h = middles-ordered old ns r z in between-convex old (start_of old ns) ns r (half-above l l u (omega arith) h) (half-below u l u h (omega arith)))
