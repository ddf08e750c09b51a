-- A buffer that is filled from the front, one at a time, until it is full: what is in it is the front of all that came. Assumes nothing.
use mathlib.Core.Path.{◌≡◌, refl, sym, ◌∙◌, ap}
use mathlib.Core.List.{List, [], ◌∷◌, ◌++◌, append_assoc}
use Prim.Native.Nat.{ℕ, zero, suc, ◌+◌, ◌≤◌, ◌<◌}
use native.Mathlib.Omega.{arith}
use native.Mathlib.Numerals.{add-one}
use lib.ListN.{length, take, set, length-append, length-take}
use lib.Seq.{take-suc-set, take_all, take-append-le}
use Rattle.script_words.specs.inner.Puts.{Puts}

module _ {A : Type 0} where
  pub take-front : (m : ℕ) (p t : List A) → take m (take m p ++ t) ≡ take m (p ++ t)
  take-front zero p t = refl
  take-front (suc m) [] t = refl
  take-front (suc m) (x ∷ p) t = ap (λ (l : List A). x ∷ l) (take-front m p t)

  -- one that was put, before all that are still to come
  pub fill_more : (x : A) (n r : ℕ) (out after t : List A) (m : ℕ) → length out ≡ m → Puts x n out r after
      → take m (take r after ++ t) ≡ take m (take n out ++ (x ∷ t))
  fill_more x n r out after t m e p =
      ap (λ (l : List A). take m (l ++ t)) (p.holds ∙ ap (λ (k : ℕ). take k (take n out ++ (x ∷ []))) e)
      ∙ take-front m (take n out ++ (x ∷ [])) t ∙ ap (take m) (append_assoc (take n out) (x ∷ []) t)

  pub puts_one : (x : A) (n : ℕ) (out : List A) → n < length out → Puts x n out (n + 1) (set out n x)
  puts_one x n out h = record {
    holds = rw (add-one n) (take-suc-set out n x h ∙ sym (take_all (length out) (take n out ++ (x ∷ []))
        (simp (length-append, length-take) (omega arith))));
    inside = omega arith;
  }

  pub puts_none : (x : A) (n : ℕ) (out : List A) → n ≤ length out → length out ≤ n → Puts x n out n out
  puts_none x n out h k = record {
    holds =
        sym (take-append-le (length out) (take n out) (x ∷ []) (simp length-take (omega arith))
        ∙ take_all (length out) (take n out) (simp length-take (omega arith)));
    inside = h;
  }
