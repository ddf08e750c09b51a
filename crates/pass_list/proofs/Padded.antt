-- Writing the next entries of a list that lies in an array. Assumes nothing.
use Prim.Native.Nat.{ℕ, zero, suc, ◌+◌, ◌-◌, ◌<◌, ◌≤◌}
use mathlib.Core.Path.{◌≡◌, sym, ◌∙◌, ap}
use mathlib.Core.List.{List, [], ◌∷◌, ◌++◌, append_assoc}
use native.Mathlib.Omega.{arith}
use lib.ListN.{length, take, drop, set, replicate, length-append, take-append-drop}
use lib.Seq.{set_at, take_at, drop-append-add}
use Rattle.passes.specs.Stored.{padded}

module _ {A : Type 0} (z : A) where
  more-zeros : (n m : ℕ) → n ≡ suc m → replicate n z ≡ z ∷ replicate m z
  more-zeros n m e = rw e

  drop-zeros : (k n : ℕ) → drop k (replicate n z) ≡ replicate (n - k) z
  drop-zeros zero n = let e : n ≡ n - 0 = omega arith in ap (λ (i : ℕ). replicate i z) e
  drop-zeros (suc k) zero = let e : 0 ≡ 0 - suc k = omega arith in ap (λ (i : ℕ). replicate i z) e
  drop-zeros (suc k) (suc n) = let e : n - k ≡ suc n - suc k = omega arith in drop-zeros k n ∙ ap (λ (i : ℕ). replicate i z) e

  -- one more entry
  pub padded-set : (m : ℕ) (xs : List A) (n : ℕ) (a : A) → length xs ≡ n → n < m → set (padded m z xs) n a ≡ padded m z (xs ++ a ∷ [])
  padded-set m xs n a e h =
      ap (λ (l : List A). set (xs ++ l) n a) (more-zeros (m - length xs) (m - length (xs ++ a ∷ [])) (omega (arith, length-append xs (a ∷ []))))
      ∙ set_at xs z (replicate (m - length (xs ++ a ∷ [])) z) a n e
      ∙ sym (append_assoc xs (a ∷ []) (replicate (m - length (xs ++ a ∷ [])) z))

  -- several, up to `end`
  pub padded-write : (m : ℕ) (xs ws ys : List A) (n end : ℕ) → length xs ≡ n → length ws ≡ end - n → n ≤ end → end ≤ m
      → take end ys ≡ take n (padded m z xs) ++ ws → drop end ys ≡ drop end (padded m z xs) → ys ≡ padded m z (xs ++ ws)
  padded-write m xs ws ys n end e f h k t d =
      let zs = replicate (m - length xs) z in
      let g : end ≡ length xs + (end - n) = omega arith in
      let i : m - length xs - (end - n) ≡ m - length (xs ++ ws) = omega (arith, length-append xs ws) in
      sym (take-append-drop end ys) ∙ ap (λ (l : List A). l ++ drop end ys) (t ∙ ap (λ (l : List A). l ++ ws) (take_at xs zs n e))
      ∙ ap (λ (l : List A). xs ++ ws ++ l) (d ∙ ap (λ (j : ℕ). drop j (padded m z xs)) g ∙ drop-append-add xs zs (end - n) ∙ drop-zeros (end - n) (m - length xs) ∙ ap (λ (j : ℕ). replicate j z) i)
