-- Ratings: one of a list and all of it, and what is left of a list after the first i. Assumes nothing.
use mathlib.Core.Path.{◌≡◌, refl, sym, ◌∙◌, ap}
use mathlib.Core.Bool.{true, false, ◌&&◌}
use mathlib.Core.List.{List, [], ◌∷◌}
use Prim.Native.Nat.{ℕ, zero, suc, ◌+◌, ◌≤◌, ◌<◌}
use native.Mathlib.Omega.{arith}
use native.Mathlib.Numerals.{add-one}
use borrow.Author.Tests.{leb-true, le-leb}
use lib.Dec.{leb}
use lib.ListN.{length, get_or, take, drop, drop_of_length-le}
use lib.Seq.{drop-cons}
use Rattle.ints.specs.Ratings.{max_rating, is_rating, all_ratings}
use Rattle.ints.proofs.Tests.{and_left, and_right, and_assoc}

pub rating-least : (w : ℕ) → is_rating w ≡ true → 1 ≤ w
rating-least w e = leb-true 1 w (and_left (leb 1 w) (leb w max_rating) e)

pub rating-most : (w : ℕ) → is_rating w ≡ true → w ≤ max_rating
rating-most w e = leb-true w max_rating (and_right (leb 1 w) (leb w max_rating) e)

pub rating-make : (w : ℕ) → 1 ≤ w → w ≤ max_rating → is_rating w ≡ true
rating-make w h k = rw (le-leb 1 w h, le-leb w max_rating k)

-- ---- all of a list
pub ratings-get : (ws : List ℕ) (i : ℕ) → all_ratings ws ≡ true → i < length ws → is_rating (get_or ws i 0) ≡ true
unfolding all_ratings
ratings-get [] i e h = absurd (omega (arith, h))
ratings-get (w ∷ ws) zero e h = and_left (is_rating w) (all_ratings ws) e
ratings-get (w ∷ ws) (suc i) e h = ratings-get ws i (and_right (is_rating w) (all_ratings ws) e) (omega arith)

pub ratings-each : (ws : List ℕ) → ((i : ℕ) → i < length ws → is_rating (get_or ws i 0) ≡ true) → all_ratings ws ≡ true
unfolding all_ratings
ratings-each [] f = refl
ratings-each (w ∷ ws) f = rw (f 0 (omega arith), ratings-each ws (λ i h. f (suc i) (omega arith)))

pub ratings-cut : (n : ℕ) (ws : List ℕ) → all_ratings ws ≡ (all_ratings (take n ws) && all_ratings (drop n ws))
unfolding all_ratings
ratings-cut zero ws = refl
ratings-cut (suc n) [] = refl
ratings-cut (suc n) (w ∷ ws) = ap (λ t. is_rating w && t) (ratings-cut n ws) ∙ and_assoc (is_rating w) (all_ratings (take n ws)) (all_ratings (drop n ws))

pub ratings-take : (n : ℕ) (ws : List ℕ) → all_ratings ws ≡ true → all_ratings (take n ws) ≡ true
ratings-take n ws e = and_left (all_ratings (take n ws)) (all_ratings (drop n ws)) (sym (ratings-cut n ws) ∙ e)

pub ratings-drop : (n : ℕ) (ws : List ℕ) → all_ratings ws ≡ true → all_ratings (drop n ws) ≡ true
ratings-drop n ws e = and_right (all_ratings (take n ws)) (all_ratings (drop n ws)) (sym (ratings-cut n ws) ∙ e)

-- ---- what is left of a list after the first i
module _ (ws : List ℕ) (i : ℕ) where
  pub ratings-on : i < length ws → is_rating (get_or ws i 0) ≡ true → all_ratings (drop i ws) ≡ all_ratings (drop (i + 1) ws)
  unfolding all_ratings
  ratings-on h e = rw (add-one, drop-cons ws i 0 h, e)

  pub ratings-stop : i < length ws → is_rating (get_or ws i 0) ≡ false → all_ratings (drop i ws) ≡ false
  unfolding all_ratings
  ratings-stop h e = rw (drop-cons ws i 0 h, e)

  pub ratings-end : length ws ≤ i → all_ratings (drop i ws) ≡ true
  unfolding all_ratings
  ratings-end h = rw (drop_of_length-le ws h)
