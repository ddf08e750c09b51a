-- The sideways length of demand 3's words, a sum over the plan's segments, is place-run's, a sum over the boxes' neighbours. Assumes nothing.
use mathlib.Core.Path.{◌≡◌, refl, sym, ◌∙◌, ap}
use mathlib.Core.Bool.{Bool, true, false, cond}
use mathlib.Core.List.{List, [], ◌∷◌, map}
use mathlib.Core.Option.{none, some}
use Prim.Native.Nat.{ℕ, zero, suc, ◌+◌, ◌*◌, ◌<◌}
use native.Mathlib.Omega.{arith}
use lib.Dec.{eqb}
use borrow.Author.Tests.{eqb-true, eqb-false, eq-eqb, ne_eqb}
use lib.ListN.{length}
use lib.IntN.{ℤ}
use Rattle.ints.proofs.Laws.{if-ind}
use Rattle.run.specs.Run.{leads_of}
use Rattle.run.specs.Words.{sideways, sideways_length}
use Rattle.plan.specs.Plan.{PlanData, numbers}
use Rattle.plan.specs.Segments.{Segment, segments_of, Rated, rated_from, rated_of, above_in, below_in, above, below, ratings_above, ratings_below}
use Rattle.passes.specs.State.{State, position_of}
use Rattle.passes.specs.Ready.{preceding, preceding_ratings}
use Rattle.passes.specs.Passes.{boxes_at}
use Rattle.passes.specs.Words.{place_of, far_from, sideways_from, sideways_sum}

-- ---- box by box
from-split : (v : ℕ) (y : ℤ) (vs : List ℕ) (ys xs : List ℤ) (b n : ℕ) → place_of vs ys v ≡ none
    → sideways_from (v ∷ vs) (y ∷ ys) xs b n ≡ sideways_from (v ∷ []) (y ∷ []) xs b n + sideways_from vs ys xs b n
unfolding sideways_from place_of
from-split v y vs ys xs b n e = go (eqb v b) refl
  where
    go : (t : Bool) → eqb v b ≡ t
        → far_from (position_of xs n) (cond t (some y) (place_of vs ys b)) ≡ far_from (position_of xs n) (cond t (some y) none) + far_from (position_of xs n) (place_of vs ys b)
    go true f = let z : place_of vs ys b ≡ none = ap (place_of vs ys) (sym (eqb-true v b f)) ∙ e in rw z (omega arith)
    go false f = omega arith

-- one more segment, whichever end is the box's
part : (t : Bool) (w d d1 d2 u u1 u2 m m1 m2 : ℕ) → d ≡ d1 + d2 → u ≡ u1 + u2 → m ≡ m1 + m2
    → w * cond t d u + m ≡ (w * cond t d1 u1 + m1) + (w * cond t d2 u2 + m2)
part true w d d1 d2 u u1 u2 m m1 m2 a b c = omega (arith, ap (λ n. w * n) a)
part false w d d1 d2 u u1 u2 m m1 m2 a b c = omega (arith, ap (λ n. w * n) b)

sum-split : (q v : ℕ) (y : ℤ) (vs : List ℕ) (ys xs : List ℤ) (rs : List Rated) → place_of vs ys v ≡ none
    → sideways_sum q (v ∷ vs) (y ∷ ys) xs rs ≡ sideways_sum q (v ∷ []) (y ∷ []) xs rs + sideways_sum q vs ys xs rs
unfolding sideways_sum
sum-split q v y vs ys xs [] e = omega arith
sum-split q v y vs ys xs (r ∷ rs) e =
    let a = from-split v y vs ys xs r.segment.upper r.segment.lower e in
    let b = from-split v y vs ys xs r.segment.lower r.segment.upper e in
    let c = sum-split q v y vs ys xs rs e in part (eqb q 2) r.rating _ _ _ _ _ _ _ _ _ a b c

-- ---- one box: its neighbours
swap-eqb : (a b : ℕ) → eqb a b ≡ eqb b a
swap-eqb a b = go (eqb b a) refl
  where
    go : (t : Bool) → eqb b a ≡ t → eqb a b ≡ t
    go true e = eq-eqb a b (sym (eqb-true b a e))
    go false e = ne_eqb a b (λ f. eqb-false b a e (sym f))

one_more : (t : Bool) (xs : List ℤ) (y : ℤ) (n w : ℕ) (ns ws : List ℕ) (m : ℕ) → m ≡ sideways (leads_of (map (position_of xs) ns) ws) y
    → w * far_from (position_of xs n) (cond t (some y) none) + m ≡ sideways (leads_of (map (position_of xs) (cond t (n ∷ ns) ns)) (cond t (w ∷ ws) ws)) y
unfolding sideways leads_of
one_more true xs y n w ns ws m f = omega (arith, f)
one_more false xs y n w ns ws m f = omega (arith, f)

no-leads : (xs : List ℤ) → leads_of xs [] ≡ []
unfolding leads_of
no-leads [] = refl
no-leads (x ∷ xs) = refl

one_below : (v : ℕ) (y : ℤ) (xs : List ℤ) (q : ℕ) (ss : List Segment) (ws : List ℕ) → eqb q 2 ≡ true
    → sideways_sum q (v ∷ []) (y ∷ []) xs (rated_from ss ws) ≡ sideways (leads_of (map (position_of xs) (below_in ss v)) (ratings_below (rated_from ss ws) v)) y
unfolding sideways_sum sideways_from place_of sideways below_in rated_from ratings_below leads_of
one_below v y xs q [] ws e = refl
one_below v y xs q (s ∷ ss) [] e = rw (no-leads (map (position_of xs) (below_in (s ∷ ss) v)))
one_below v y xs q (s ∷ ss) (w ∷ ws) e = rw (e, swap-eqb v s.upper)
    (one_more (eqb s.upper v) xs y s.lower w (below_in ss v) (ratings_below (rated_from ss ws) v) _ (one_below v y xs q ss ws e))

one-above : (v : ℕ) (y : ℤ) (xs : List ℤ) (q : ℕ) (ss : List Segment) (ws : List ℕ) → eqb q 2 ≡ false
    → sideways_sum q (v ∷ []) (y ∷ []) xs (rated_from ss ws) ≡ sideways (leads_of (map (position_of xs) (above_in ss v)) (ratings_above (rated_from ss ws) v)) y
unfolding sideways_sum sideways_from place_of sideways above_in rated_from ratings_above leads_of
one-above v y xs q [] ws e = refl
one-above v y xs q (s ∷ ss) [] e = rw (no-leads (map (position_of xs) (above_in (s ∷ ss) v)))
one-above v y xs q (s ∷ ss) (w ∷ ws) e = rw (e, swap-eqb v s.lower)
    (one_more (eqb s.lower v) xs y s.upper w (above_in ss v) (ratings_above (rated_from ss ws) v) _ (one-above v y xs q ss ws e))

one-box : (p : PlanData) (q v : ℕ) (y : ℤ) (xs : List ℤ)
    → sideways_sum q (v ∷ []) (y ∷ []) xs (rated_of p) ≡ sideways (leads_of (map (position_of xs) (preceding p q v)) (preceding_ratings p q v)) y
unfolding preceding preceding_ratings above below rated_of
one-box p q v y xs = go (eqb q 2) refl
  where
    ss : List Segment
    ss = segments_of p

    rs : List Rated
    rs = rated_from ss p.ratings

    go : (t : Bool) → eqb q 2 ≡ t
        → sideways_sum q (v ∷ []) (y ∷ []) xs rs ≡ sideways (leads_of (map (position_of xs) (cond t (below_in ss v) (above_in ss v))) (cond t (ratings_below rs v) (ratings_above rs v))) y
    go true e = one_below v y xs q ss p.ratings e
    go false e = one-above v y xs q ss p.ratings e

-- ---- all boxes of a run
pub place_none : (a c m : ℕ) (ys : List ℤ) → a < c → place_of (numbers c m) ys a ≡ none
unfolding place_of numbers
place_none a c zero ys h = refl
place_none a c (suc m) [] h = refl
place_none a c (suc m) (y ∷ ys) h = rw (ne_eqb c a (λ e. absurd (omega arith))) (place_none a (c + 1) m ys (omega arith))

sum-none : (q : ℕ) (ys xs : List ℤ) (rs : List Rated) → sideways_sum q [] ys xs rs ≡ 0
unfolding sideways_sum sideways_from place_of
sum-none q ys xs [] = refl
sum-none q ys xs (r ∷ rs) = if-ind (eqb q 2) 0 0 (λ n. r.rating * n + sideways_sum q [] ys xs rs ≡ 0) (λ t. omega (arith, sum-none q ys xs rs)) (λ t. omega (arith, sum-none q ys xs rs))

pub sum_is : (p : PlanData) (q : ℕ) (s : State) (a m : ℕ) (ys : List ℤ) → length ys ≡ m → sideways_sum q (numbers a m) ys s.at (rated_of p) ≡ sideways_length (boxes_at p q s (numbers a m)) ys
unfolding sideways_length boxes_at numbers
sum_is p q s a zero ys e = sum-none q ys s.at (rated_of p)
sum_is p q s a (suc m) [] e = absurd (omega arith)
sum_is p q s a (suc m) (y ∷ ys) e = sum-split q a y (numbers (a + 1) m) ys s.at (rated_of p) (place_none a (a + 1) m ys (omega arith))
    ∙ omega (arith, one-box p q a y s.at, sum_is p q s (a + 1) m ys (omega arith))
