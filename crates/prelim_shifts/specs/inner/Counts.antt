-- How many numbers of a list do not exceed z: by such counts a program finds the ⌈s/2⌉-th smallest without sorting.
use Rattle.std.specs.Prelude.{cond, List, [], ◌∷◌, ℕ, suc, ◌<◌, length, get_or, set, ℤ, pos, ◌+ℤ◌}
use Rattle.std.specs.Int.Signed.{le_z}
use Rattle.ints.specs.Ints.{◌⊑◌}

unfoldable pub count_to : ℤ → List ℤ → ℕ
count_to z [] = 0
count_to z (x ∷ xs) =
    let more = count_to z xs in
    let here = suc more in
    cond (le_z x z) here more

-- No number is above z.
pub record NoneAbove (z : ℤ) (xs : List ℤ) : Type 0 where
  pub each : (i : ℕ) → i < length xs → get_or xs i (pos 0) ⊑ z

-- Each of these vertices goes d to the right.
unfoldable pub moved_at : ℤ → List ℕ → List ℤ → List ℤ
moved_at d [] xs = xs
moved_at d (v ∷ vs) xs = moved_at d vs (set xs v (get_or xs v (pos 0) +ℤ d))
