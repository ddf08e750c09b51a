-- A list copied from the front into another. Assumes nothing.
use Prim.Native.Nat.{ℕ, ◌+◌, ◌≤◌, ◌<◌}
use mathlib.Core.Path.{◌≡◌, sym, ◌∙◌, ap}
use mathlib.Core.Bool.{Bool, false}
use mathlib.Core.List.{List, [], ◌∷◌, ◌++◌}
use native.Mathlib.Omega.{arith}
use native.Mathlib.Numerals.{add-one}
use lib.ListN.{length, take, set, get_or}
use lib.Seq.{take-suc, take-suc-set, take_all, get_or-set_same, get_or-set_other}
use Rattle.plan.proofs.CountLaws.{by-same}

module _ {A : Type 0} where
  -- one more element
  pub copied_on : (l m : List A) (i : ℕ) (d : A) → i < length l → length m ≡ length l → take i m ≡ take i l → take (i + 1) (set m i (get_or l i d)) ≡ take (i + 1) l
  copied_on l m i d h n e = rw (add-one, take-suc l i d) (take-suc-set m i (get_or l i d) (omega arith) ∙ ap (λ (f : List A). f ++ get_or l i d ∷ []) e)

  -- all of it
  pub copied_all : (l m : List A) (i : ℕ) → length l ≤ i → length m ≡ length l → take i m ≡ take i l → m ≡ l
  copied_all l m i h n e = sym (take_all i m (omega arith)) ∙ e ∙ take_all i l h

pub copy_more : (marks had : List Bool) (v : ℕ) → v < length had → ((w : ℕ) → w < v → get_or had w false ≡ get_or marks w false)
    → (w : ℕ) → w < v + 1 → get_or (set had v (get_or marks v false)) w false ≡ get_or marks w false
copy_more marks had v h f w k = by-same w v
    (λ e. ap (λ (u : ℕ). get_or (set had v (get_or marks v false)) u false) e ∙ get_or-set_same had v (get_or marks v false) false h ∙ ap (λ (u : ℕ). get_or marks u false) (sym e))
    (λ e. get_or-set_other had v w (get_or marks v false) false e ∙ f w (omega (arith, e)))
