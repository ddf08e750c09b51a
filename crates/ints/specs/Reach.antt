-- "Every position lies within ±2^40."
use Rattle.std.specs.Prelude.{Bool, true, ◌&&◌, List, [], ◌∷◌, ℕ, suc, leb, ℤ, pos, negsuc}

abbrev pub reach : ℕ
reach = 1099511627776

abbrev pub is_within : ℤ → Bool
is_within (pos n) = leb n reach
is_within (negsuc n) = leb (suc n) reach

unfoldable pub all_within : List ℤ → Bool
all_within [] = true
all_within (x ∷ xs) = is_within x && all_within xs
