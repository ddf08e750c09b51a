-- A list that a loop rewrites from the front: what is done, and what is left to do, make up the outcome. Assumes nothing.
use mathlib.Core.Path.{◌≡◌, sym, ◌∙◌}
use mathlib.Core.List.{List, [], ◌∷◌, ◌++◌, append-nil, append_assoc}
use Prim.Native.Nat.{ℕ, ◌+◌, ◌-◌, ◌≤◌, ◌<◌}
use native.Mathlib.Omega.{arith}
use native.Mathlib.Numerals.{add-one}
use lib.ListN.{length, take, drop, set, length-append, length-drop, drop_of_length-le}
use lib.Seq.{take_all, take_at, drop_at, take-suc-set}

-- a part from k to the end
pub rest_is : {A : Type 0} (k : ℕ) (l : List A) → take (length l - k) (drop k l) ≡ drop k l
rest_is k l = take_all (length l - k) (drop k l) (omega (arith, length-drop k l))

-- two parts of a list that are rewritten one after the other: xs in the place of the first k, then ys in the place of the others
module _ {A : Type 0} (k : ℕ) (l xs ys : List A) (e : length xs ≡ k) where
  pub second-part : take (length (xs ++ drop k l) - k) (drop k (xs ++ drop k l)) ≡ drop k l
  second-part = rest_is k (xs ++ drop k l) ∙ drop_at xs (drop k l) k e

  pub both-parts : take k (xs ++ drop k l) ++ (ys ++ drop (length (xs ++ drop k l) - k) (drop k (xs ++ drop k l))) ≡ xs ++ ys
  both-parts = let h : length (drop k l) ≤ length (xs ++ drop k l) - k = omega (arith, length-append xs (drop k l)) in
      rw (take_at xs (drop k l) k e, drop_at xs (drop k l) k e, drop_of_length-le (drop k l) h, append-nil)

-- one more is done
pub fill-next : {A : Type 0} (z : List A) (i : ℕ) (v : A) (rest goal : List A) → i < length z → take i z ++ v ∷ rest ≡ goal → take (i + 1) (set z i v) ++ rest ≡ goal
fill-next z i v rest goal h e = rw (add-one, take-suc-set z i v, append_assoc) e

-- all is done
pub fill_end : {A : Type 0} (z : List A) (i : ℕ) (goal : List A) → length z ≤ i → take i z ++ [] ≡ goal → z ≡ goal
fill_end z i goal h e = sym (take_all i z h) ∙ sym (append-nil (take i z)) ∙ e
