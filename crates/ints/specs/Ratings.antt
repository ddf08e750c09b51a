-- The rating of a segment (document 02, E5): "W from 2 to 100; without one it has rating 1".
use Rattle.std.specs.Prelude.{Bool, true, ◌&&◌, List, [], ◌∷◌, ℕ, leb}

abbrev pub max_rating : ℕ
max_rating = 100

abbrev pub is_rating : ℕ → Bool
is_rating w = leb 1 w && leb w max_rating

unfoldable pub all_ratings : List ℕ → Bool
all_ratings [] = true
all_ratings (w ∷ ws) = is_rating w && all_ratings ws
