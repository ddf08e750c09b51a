-- Positions of a size at most b: parts of a list, and each by a function. Assumes nothing.
use mathlib.Core.List.{List, [], ◌∷◌, ◌++◌, map}
use Prim.Native.Nat.{ℕ, zero, suc, ◌≤◌}
use native.Mathlib.Omega.{arith}
use lib.ListN.{take, drop}
use lib.IntN.{ℤ}
use Rattle.ints.specs.Ints.{size}
use Rattle.run_columns.specs.inner.Columns.{Sized}

module _ (b : ℕ) where
  pub sized-tail : (x : ℤ) (xs : List ℤ) → Sized b (x ∷ xs) → Sized b xs
  sized-tail x xs q i h = q (suc i) (omega arith)

  pub sized-take : (k : ℕ) (xs : List ℤ) → Sized b xs → Sized b (take k xs)
  sized-take zero xs q i h = absurd (omega arith)
  sized-take (suc k) [] q i h = absurd (omega arith)
  sized-take (suc k) (x ∷ xs) q zero h = q zero (omega arith)
  sized-take (suc k) (x ∷ xs) q (suc i) h = sized-take k xs (sized-tail x xs q) i (omega arith)

  pub sized-drop : (k : ℕ) (xs : List ℤ) → Sized b xs → Sized b (drop k xs)
  sized-drop zero xs q i h = q i h
  sized-drop (suc k) [] q i h = absurd (omega arith)
  sized-drop (suc k) (x ∷ xs) q i h = sized-drop k xs (sized-tail x xs q) i h

  pub sized-append : (xs ys : List ℤ) → Sized b xs → Sized b ys → Sized b (xs ++ ys)
  sized-append [] ys p q i h = q i h
  sized-append (x ∷ xs) ys p q zero h = p zero (omega arith)
  sized-append (x ∷ xs) ys p q (suc i) h = sized-append xs ys (sized-tail x xs p) q i (omega arith)

  pub sized-map : (d : ℕ) (f : ℤ → ℤ) → ((x : ℤ) → size x ≤ b → size (f x) ≤ d) → (xs : List ℤ) → Sized b xs → Sized d (map f xs)
  sized-map d f g [] q i h = absurd (omega arith)
  sized-map d f g (x ∷ xs) q zero h = g x (q zero (omega arith))
  sized-map d f g (x ∷ xs) q (suc i) h = sized-map d f g xs (sized-tail x xs q) i (omega arith)
