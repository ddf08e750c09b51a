-- Segments with their ratings, and the two lists side by side. Assumes nothing.
use Prim.Native.Nat.{ℕ, zero, suc, ◌<◌}
use mathlib.Core.Path.{◌≡◌, refl, ap}
use mathlib.Core.Bool.{Bool, true, false, cond}
use mathlib.Core.List.{List, [], ◌∷◌, map}
use native.Mathlib.Omega.{arith}
use lib.Dec.{eqb}
use lib.ListN.{length, get_or}
use Rattle.plan.specs.Segments.{Segment, Rated, rated_from, above_in, below_in, ratings_above, ratings_below}
use Rattle.plan.specs.inner.Graph.{segment}

abbrev pub rated : Segment → ℕ → Rated
rated s w = record { segment = s; rating = w }

pub rated-segments : (ss : List Segment) (ws : List ℕ) → length ws ≡ length ss → map (λ r. r.segment) (rated_from ss ws) ≡ ss
unfolding rated_from
rated-segments [] ws e = refl
rated-segments (s ∷ ss) [] e = absurd (omega arith)
rated-segments (s ∷ ss) (w ∷ ws) e = rw (rated-segments ss ws (omega arith))

pub rated-ratings : (ss : List Segment) (ws : List ℕ) → length ws ≡ length ss → map (λ r. r.rating) (rated_from ss ws) ≡ ws
unfolding rated_from
rated-ratings [] [] e = refl
rated-ratings [] (w ∷ ws) e = absurd (omega arith)
rated-ratings (s ∷ ss) [] e = absurd (omega arith)
rated-ratings (s ∷ ss) (w ∷ ws) e = rw (rated-ratings ss ws (omega arith))

pub rated-again : (rs : List Rated) → rated_from (map (λ r. r.segment) rs) (map (λ r. r.rating) rs) ≡ rs
unfolding rated_from
rated-again [] = refl
rated-again (r ∷ rs) = rw (rated-again rs)

pub rated-count : (ss : List Segment) (ws : List ℕ) → length ws ≡ length ss → length (rated_from ss ws) ≡ length ss
unfolding rated_from
rated-count [] ws e = refl
rated-count (s ∷ ss) [] e = absurd (omega arith)
rated-count (s ∷ ss) (w ∷ ws) e = ap suc (rated-count ss ws (omega arith))

pub rated-at : (ss : List Segment) (ws : List ℕ) (i : ℕ) → length ws ≡ length ss → i < length ss
    → get_or (rated_from ss ws) i (rated (segment 0 0) 0) ≡ rated (get_or ss i (segment 0 0)) (get_or ws i 0)
unfolding rated_from
rated-at [] ws i e h = absurd (omega arith)
rated-at (s ∷ ss) [] i e h = absurd (omega arith)
rated-at (s ∷ ss) (w ∷ ws) zero e h = refl
rated-at (s ∷ ss) (w ∷ ws) (suc i) e h = rated-at ss ws i (omega arith) (omega arith)

-- as many ratings as neighbours
longer : {A B : Type 0} (b : Bool) (x : A) (xs : List A) (y : B) (ys : List B) → length xs ≡ length ys → length (cond b (x ∷ xs) xs) ≡ length (cond b (y ∷ ys) ys)
longer true x xs y ys e = ap suc e
longer false x xs y ys e = e

pub above-rated : (ss : List Segment) (ws : List ℕ) (v : ℕ) → length ws ≡ length ss → length (ratings_above (rated_from ss ws) v) ≡ length (above_in ss v)
unfolding rated_from above_in ratings_above
above-rated [] ws v e = refl
above-rated (s ∷ ss) [] v e = absurd (omega arith)
above-rated (s ∷ ss) (w ∷ ws) v e =
    longer (eqb s.lower v) w (ratings_above (rated_from ss ws) v) s.upper (above_in ss v) (above-rated ss ws v (omega arith))

pub below-rated : (ss : List Segment) (ws : List ℕ) (v : ℕ) → length ws ≡ length ss → length (ratings_below (rated_from ss ws) v) ≡ length (below_in ss v)
unfolding rated_from below_in ratings_below
below-rated [] ws v e = refl
below-rated (s ∷ ss) [] v e = absurd (omega arith)
below-rated (s ∷ ss) (w ∷ ws) v e =
    longer (eqb s.upper v) w (ratings_below (rated_from ss ws) v) s.lower (below_in ss v) (below-rated ss ws v (omega arith))
