-- Lists in the first places of arrays. Assumes nothing.
use Prim.Native.Nat.{ℕ, zero, suc, ◌≤◌}
use mathlib.Core.Path.{◌≡◌, refl, sym, ◌∙◌, ap}
use mathlib.Core.List.{List, ◌∷◌, ◌++◌}
use native.Mathlib.Omega.{arith}
use lib.ListN.{length, take, replicate, length-append}
use lib.Seq.{take_at}

pub take-replicate : {A : Type 0} (n m : ℕ) (x : A) → n ≤ m → take n (replicate m x) ≡ replicate n x
take-replicate zero m x h = refl
take-replicate (suc n) zero x h = absurd (omega arith)
take-replicate {A} (suc n) (suc m) x h = ap (λ (l : List A). x ∷ l) (take-replicate n m x (omega arith))

module _ {A : Type 0} (front rest : List A) (n : ℕ) (e : length front ≡ n) where
  pub first-fit : n ≤ length (front ++ rest)
  first-fit = omega (arith, length-append front rest)

  pub first-is : take n (front ++ rest) ≡ front
  first-is = take_at front rest n e

  pub first_count : n ≡ length (take n (front ++ rest))
  first_count = sym (ap length first-is ∙ e)
