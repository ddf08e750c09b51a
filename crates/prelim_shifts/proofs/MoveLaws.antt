-- Laws of moving the vertices of a chain. Assumes nothing.
use Prim.Native.Nat.{ℕ, suc, ◌+◌, ◌<◌, ◌≤◌}
use mathlib.Core.Path.{◌≡◌, sym, ◌∙◌, ap}
use mathlib.Core.List.{List, [], ◌∷◌, ◌++◌, append_assoc, append-nil}
use native.Mathlib.Omega.{arith}
use native.Mathlib.Numerals.{add-one}
use borrow.Author.Tests.{eq-eqb, ne_eqb}
use lib.ListN.{length, get_or, set, take, drop, length-set}
use lib.Seq.{get_or-set_other, take_all, take-suc, take-suc-set, drop-cons, drop-set-lt}
use lib.IntN.{ℤ, pos, ◌+ℤ◌}
use Rattle.ints.specs.Ints.{size}
use Rattle.plan.proofs.CountLaws.{by-same}
use Rattle.prelim_classes.specs.inner.Links.{chain, Rising, positions}
use Rattle.preliminary.specs.Shift.{moved}
use Rattle.prelim_shifts.specs.inner.Counts.{moved_at}
use Rattle.prelim_classes.proofs.ChainLaws.{along-end, chain-on}

module _ (link : List ℕ) (r : Rising link) (d : ℤ) (v : ℕ) (xs : List ℤ) where
  pub moved_on : v < length link → moved_at d (chain link v) xs ≡ moved_at d (chain link (get_or link v 0)) (set xs v (get_or xs v (pos 0) +ℤ d))
  unfolding moved_at
  moved_on h = rw (chain-on link 0 r v (omega arith) h)

  pub moved-end : length link ≤ v → moved_at d (chain link v) xs ≡ xs
  unfolding moved_at
  moved-end h = rw (along-end link (length link) v h)

-- those ahead stay as they were
pub record AheadSized (v m : ℕ) (xs : List ℤ) : Type 0 where
  pub each : (w : ℕ) → v ≤ w → size (get_or xs w (pos 0)) ≤ m

pub ahead-set : (v w m : ℕ) (x : ℤ) (xs : List ℤ) → v < w → AheadSized v m xs → AheadSized w m (set xs v x)
ahead-set v w m x xs h a = record { each = λ u k. rw (get_or-set_other xs v u x (pos 0) (λ e. omega arith)) (a.each u (omega arith)) }

-- the members of class c, in the order of the vertices
moved_in : (c : ℕ) (d x : ℤ) (k : ℕ) (ks : List ℕ) (xs : List ℤ) → k ≡ c → moved c d (k ∷ ks) (x ∷ xs) ≡ (x +ℤ d) ∷ moved c d ks xs
unfolding moved
moved_in c d x k ks xs e = rw (eq-eqb k c e)

moved_out : (c : ℕ) (d x : ℤ) (k : ℕ) (ks : List ℕ) (xs : List ℤ) → (k ≡ c → ⊥) → moved c d (k ∷ ks) (x ∷ xs) ≡ x ∷ moved c d ks xs
unfolding moved
moved_out c d x k ks xs e = rw (ne_eqb k c e)

positions-in : (c i k : ℕ) (ks : List ℕ) → k ≡ c → positions c i (k ∷ ks) ≡ i ∷ positions c (i + 1) ks
unfolding positions
positions-in c i k ks e = rw (eq-eqb k c e)

positions-out : (c i k : ℕ) (ks : List ℕ) → (k ≡ c → ⊥) → positions c i (k ∷ ks) ≡ positions c (i + 1) ks
unfolding positions
positions-out c i k ks e = rw (ne_eqb k c e)

moved-from : (c : ℕ) (d : ℤ) (ks : List ℕ) (i : ℕ) (xs : List ℤ) → length xs ≡ i + length ks → moved_at d (positions c i ks) xs ≡ take i xs ++ moved c d ks (drop i xs)
unfolding moved_at positions moved
moved-from c d [] i xs e = sym (append-nil (take i xs) ∙ take_all i xs (omega arith))
moved-from c d (k ∷ ks) i xs e =
    let x = get_or xs i (pos 0) in
    let h : i < length xs = omega arith in
    by-same k c
    (λ s. let y = x +ℤ d in let i' = moved-from c d ks (i + 1) (set xs i y) (length-set xs i y ∙ omega arith) in
    ap (λ (l : List ℕ). moved_at d l xs) (positions-in c i k ks s) ∙ i'
    ∙ ap (λ (l : List ℤ). l ++ moved c d ks (drop (i + 1) (set xs i y))) (ap (λ (n : ℕ). take n (set xs i y)) (add-one i) ∙ take-suc-set xs i y h)
    ∙ ap (λ (l : List ℤ). (take i xs ++ (y ∷ [])) ++ moved c d ks l) (drop-set-lt (i + 1) xs i y (omega arith))
    ∙ append_assoc (take i xs) (y ∷ []) (moved c d ks (drop (i + 1) xs))
    ∙ sym (ap (λ (l : List ℤ). take i xs ++ l) (ap (moved c d (k ∷ ks)) (drop-cons xs i (pos 0) h) ∙ moved_in c d x k ks (drop (suc i) xs) s ∙ ap (λ (n : ℕ). y ∷ moved c d ks (drop n xs)) (sym (add-one i)))))
    (λ s. ap (λ (l : List ℕ). moved_at d l xs) (positions-out c i k ks s) ∙ moved-from c d ks (i + 1) xs (omega arith)
    ∙ ap (λ (l : List ℤ). l ++ moved c d ks (drop (i + 1) xs)) (ap (λ (n : ℕ). take n xs) (add-one i) ∙ take-suc xs i (pos 0) h)
    ∙ append_assoc (take i xs) (x ∷ []) (moved c d ks (drop (i + 1) xs))
    ∙ sym (ap (λ (l : List ℤ). take i xs ++ l) (ap (moved c d (k ∷ ks)) (drop-cons xs i (pos 0) h) ∙ moved_out c d x k ks (drop (suc i) xs) s ∙ ap (λ (n : ℕ). x ∷ moved c d ks (drop n xs)) (sym (add-one i)))))

pub moved-class : (c : ℕ) (d : ℤ) (classes : List ℕ) (xs : List ℤ) → length xs ≡ length classes → moved_at d (positions c 0 classes) xs ≡ moved c d classes xs
moved-class c d classes xs e = moved-from c d classes 0 xs (omega arith)
