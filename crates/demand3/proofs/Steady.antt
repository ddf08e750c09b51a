-- Two sums of sideways lengths that differ, segment by segment, by what does not depend on the placement. Assumes nothing.
use mathlib.Core.Path.{◌≡◌, refl, sym, ◌∙◌, ap, subst}
use mathlib.Core.Bool.{Bool, true, false, cond}
use mathlib.Core.List.{List, [], ◌∷◌}
use mathlib.Core.Option.{none, some}
use Prim.Native.Nat.{ℕ, zero, suc, ◌+◌, ◌-◌, ◌*◌, ◌≤◌, ◌<◌}
use native.Mathlib.Omega.{arith}
use lib.Dec.{eqb}
use borrow.Author.Tests.{eq-eqb, ne_eqb}
use lib.ListN.{length, get_or}
use lib.IntN.{ℤ, pos}
use Rattle.ints.specs.Ints.{◌⊑◌, gap}
use Rattle.ints.proofs.Laws.{gap-r, gap-l}
use Rattle.plan.specs.Plan.{numbers}
use Rattle.plan.specs.Segments.{Segment, rated_from}
use Rattle.passes.specs.State.{position_of, put}
use Rattle.passes.specs.Words.{place_of, sideways_from, sideways_sum}
use Rattle.plan.proofs.All.{All, all_nil, all_cons}
use Rattle.passes.proofs.Put.{put_in}

-- ---- a box at y or at z, a neighbour at a or at c
abbrev pub Steady : ℤ → ℤ → ℤ → ℤ → Type 0
Steady y z a c = gap z c + gap y a ≡ gap y c + gap z a

pub steady-right : (y z a c : ℤ) → a ⊑ y → a ⊑ z → c ⊑ y → c ⊑ z → Steady y z a c
steady-right y z a c h i j k = omega (arith, gap-r y a h, gap-r z a i, gap-r y c j, gap-r z c k)

pub steady-left : (y z a c : ℤ) → y ⊑ a → z ⊑ a → y ⊑ c → z ⊑ c → Steady y z a c
steady-left y z a c h i j k = omega (arith, gap-l y a h, gap-l z a i, gap-l y c j, gap-l z c k)

pub steady-same : (y z a c : ℤ) → c ≡ a → Steady y z a c
steady-same y z a c e = rw e (omega arith)

-- ---- one segment
pub place_out : (a m : ℕ) (ys : List ℤ) (b : ℕ) → (a ≤ b → b < a + m → ⊥) → place_of (numbers a m) ys b ≡ none
unfolding place_of numbers
place_out a zero ys b h = refl
place_out a (suc m) [] b h = refl
place_out a (suc m) (y ∷ ys) b h = rw (ne_eqb a b (λ e. h (omega arith) (omega arith))) (place_out (a + 1) m ys b (λ i j. h (omega arith) (omega arith)))

place-get : (a m : ℕ) (ys : List ℤ) (i : ℕ) → length ys ≡ m → i < m → place_of (numbers a m) ys (a + i) ≡ some (get_or ys i (pos 0))
unfolding place_of numbers
place-get a zero ys i e h = absurd (omega arith)
place-get a (suc m) [] i e h = absurd (omega arith)
place-get a (suc m) (y ∷ ys) zero e h = rw (eq-eqb a (a + 0) (omega arith))
place-get a (suc m) (y ∷ ys) (suc i) e h = let z : a + suc i ≡ a + 1 + i = omega arith in
    rw (ne_eqb a (a + suc i) (λ f. absurd (omega arith))) (ap (place_of (numbers (a + 1) m) ys) z ∙ place-get (a + 1) m ys i (omega arith) (omega arith))

-- the box stands where it is put
pub place_in : (a m : ℕ) (ys xs : List ℤ) (b : ℕ) → a + m ≤ length xs → length ys ≡ m → a ≤ b → b < a + m → place_of (numbers a m) ys b ≡ some (position_of (put (numbers a m) ys xs) b)
place_in a m ys xs b l e h k = let z : a + (b - a) ≡ b = omega arith in
    subst (λ c. place_of (numbers a m) ys c ≡ some (position_of (put (numbers a m) ys xs) c)) z
    (place-get a m ys (b - a) e (omega arith) ∙ ap some (sym (put_in a m ys xs (b - a) l e (omega arith))))

-- ---- the sum
abbrev pub SteadyFrom : List ℕ → List ℤ → List ℤ → List ℤ → List ℤ → ℕ → ℕ → Type 0
SteadyFrom vs ys zs xs fs b n = sideways_from vs zs fs b n + sideways_from vs ys xs b n ≡ sideways_from vs ys fs b n + sideways_from vs zs xs b n

pub steady-from : (vs : List ℕ) (ys zs xs fs : List ℤ) (b n : ℕ) (y z : ℤ) → place_of vs ys b ≡ some y → place_of vs zs b ≡ some z → Steady y z (position_of xs n) (position_of fs n) → SteadyFrom vs ys zs xs fs b n
unfolding sideways_from
steady-from vs ys zs xs fs b n y z e f h = rw (e, f) h

pub steady-none : (vs : List ℕ) (ys zs xs fs : List ℤ) (b n : ℕ) → place_of vs ys b ≡ none → place_of vs zs b ≡ none → SteadyFrom vs ys zs xs fs b n
unfolding sideways_from
steady-none vs ys zs xs fs b n e f = rw (e, f) refl

-- the ends of a segment: the box, and its neighbour on the preceding level
abbrev pub SteadyAt : Bool → List ℕ → List ℤ → List ℤ → List ℤ → List ℤ → Segment → Type 0
SteadyAt true vs ys zs xs fs s = SteadyFrom vs ys zs xs fs s.upper s.lower
SteadyAt false vs ys zs xs fs s = SteadyFrom vs ys zs xs fs s.lower s.upper

factor : (f a b c d : ℕ) → a + b ≡ c + d → f * a + f * b ≡ f * c + f * d
factor f a b c d e = omega (arith, ap (λ n. f * n) e)

pub sum-steady : (t : Bool) (q : ℕ) (vs : List ℕ) (ys zs xs fs : List ℤ) {ss : List Segment} (ws : List ℕ) → eqb q 2 ≡ t → All (SteadyAt t vs ys zs xs fs) ss
    → sideways_sum q vs zs fs (rated_from ss ws) + sideways_sum q vs ys xs (rated_from ss ws) ≡ sideways_sum q vs ys fs (rated_from ss ws) + sideways_sum q vs zs xs (rated_from ss ws)
unfolding sideways_sum rated_from
sum-steady t q vs ys zs xs fs ws e all_nil = refl
sum-steady t q vs ys zs xs fs [] e (all_cons h hs) = refl
sum-steady true q vs ys zs xs fs (w ∷ ws) e (all_cons {x = s} h hs) = rw e (omega (arith, factor w _ _ _ _ h, sum-steady true q vs ys zs xs fs ws e hs))
sum-steady false q vs ys zs xs fs (w ∷ ws) e (all_cons {x = s} h hs) = rw e (omega (arith, factor w _ _ _ _ h, sum-steady false q vs ys zs xs fs ws e hs))
