-- A buffer that is being filled from the front.
use Rattle.std.specs.Prelude.{◌≡◌, List, [], ◌∷◌, ◌++◌, ℕ, ◌≤◌, length, take}

-- One more after the first n of a buffer, if it has room: r is then how many there are.
pub record Puts {A : Type 0} (x : A) (n : ℕ) (out : List A) (r : ℕ) (after : List A) : Type 0 where
  pub holds : take r after ≡ take (length out) (take n out ++ (x ∷ []))
  pub inside : r ≤ length out
