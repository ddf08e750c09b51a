-- Ratings as sums so far, one more than there are neighbours and beginning anywhere: the rating of a neighbour is what the sum after it
-- is more than the one before it, and the ratings of neighbours side by side are one difference.
use Rattle.std.specs.Prelude.{◌≡◌, true, List, [], ◌∷◌, ℕ, ◌+◌, ◌-◌, ◌≤◌, length, ℤ}
use Rattle.ints.specs.Ratings.{all_ratings}
use Rattle.run.specs.Call.{max_neighbours}

unfoldable pub ratings_between : List ℕ → List ℕ
ratings_between [] = []
ratings_between (s ∷ []) = []
ratings_between (s ∷ t ∷ ss) = (t - s) ∷ ratings_between (t ∷ ss)

-- Sums for each neighbour, whose ratings are from 1 to 100.
pub record SumsOf (ss : List ℕ) (ns : List ℤ) : Type 0 where
  pub long : length ss ≡ length ns + 1
  pub few : length ns ≤ max_neighbours
  pub rated : all_ratings (ratings_between ss) ≡ true
