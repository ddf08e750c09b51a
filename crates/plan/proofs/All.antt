-- A fact of every member of a list, and the test `every`. Assumes nothing.
use mathlib.Core.Path.{◌≡◌, refl, sym, subst}
use mathlib.Core.Bool.{Bool, true, false, cond}
use mathlib.Core.Logic.{inl, inr}
use mathlib.Core.List.{List, [], ◌∷◌, ◌++◌, reverse, reverse-cons, Memᴰ}
use Prim.Native.Nat.{ℕ, zero, suc, ◌<◌}
use native.Mathlib.Omega.{arith}
use lib.ListN.{length, get_or, take, drop}
use Rattle.plan.specs.Checks.{every}
use Rattle.ints.specs.inner.Members.{Mem}

pub no_true : {G : Type 0} → false ≡ true → G
no_true e = absurd (subst (λ (t : Bool). cond t ⊥ (Unit {0})) e tt)

-- both of two tests, as the definitions write it
pub cond_both : (t u : Bool) → cond t u false ≡ true → (t ≡ true) × (u ≡ true)
cond_both true u e = (refl, e)
cond_both false u e = no_true e

pub data All {A : Type 0} (Q : A → Type 0) : List A → Type 0 where
  all_nil : All Q []
  all_cons : {x : A} {xs : List A} → Q x → All Q xs → All Q (x ∷ xs)

-- the same membership, as `Sound` writes it
pub member : {A : Type 0} {x : A} {xs : List A} → Memᴰ x xs → Mem x xs
member (Memᴰ.head e) = inl e
member (Memᴰ.tail m) = inr (member m)

module _ {A : Type 0} where
  pub all_map : {Q R : A → Type 0} {xs : List A} → ((x : A) → Q x → R x) → All Q xs → All R xs
  all_map f all_nil = all_nil
  all_map f (all_cons {x = x} q qs) = all_cons (f x q) (all_map f qs)

  pub all_append : {Q : A → Type 0} {xs ys : List A} → All Q xs → All Q ys → All Q (xs ++ ys)
  all_append all_nil r = r
  all_append (all_cons q qs) r = all_cons q (all_append qs r)

  pub all_left : {Q : A → Type 0} (xs ys : List A) → All Q (xs ++ ys) → All Q xs
  all_left [] ys q = all_nil
  all_left (x ∷ xs) ys (all_cons q qs) = all_cons q (all_left xs ys qs)

  pub all_right : {Q : A → Type 0} (xs ys : List A) → All Q (xs ++ ys) → All Q ys
  all_right [] ys q = q
  all_right (x ∷ xs) ys (all_cons q qs) = all_right xs ys qs

  pub all_head : {Q : A → Type 0} {x : A} {xs : List A} → All Q (x ∷ xs) → Q x
  all_head (all_cons q qs) = q

  pub all_tail : {Q : A → Type 0} {x : A} {xs : List A} → All Q (x ∷ xs) → All Q xs
  all_tail (all_cons q qs) = qs

  pub all-get : {Q : A → Type 0} (xs : List A) (d : A) → All Q xs → (i : ℕ) → i < length xs → Q (get_or xs i d)
  all-get [] d q i h = absurd (omega arith)
  all-get (x ∷ xs) d (all_cons q qs) zero h = q
  all-get (x ∷ xs) d (all_cons q qs) (suc i) h = all-get xs d qs i (omega arith)

  pub all-of-get : {Q : A → Type 0} (xs : List A) (d : A) → ((i : ℕ) → i < length xs → Q (get_or xs i d)) → All Q xs
  all-of-get [] d f = all_nil
  all-of-get (x ∷ xs) d f = all_cons (f 0 (omega arith)) (all-of-get xs d (λ i h. f (suc i) (omega arith)))

  pub all-mem : {Q : A → Type 0} {x : A} {xs : List A} → All Q xs → Memᴰ x xs → Q x
  all-mem {Q = Q} all_nil x4 = elim x4 [ ]
  all-mem {Q} (all_cons q qs) (Memᴰ.head e) = subst Q (sym e) q
  all-mem (all_cons q qs) (Memᴰ.tail m) = all-mem qs m

  pub all-of-mem : {Q : A → Type 0} (xs : List A) → ((x : A) → Memᴰ x xs → Q x) → All Q xs
  all-of-mem [] f = all_nil
  all-of-mem (x ∷ xs) f = all_cons (f x (Memᴰ.head refl)) (all-of-mem xs (λ y m. f y (Memᴰ.tail m)))

  pub all_take : {Q : A → Type 0} (k : ℕ) {xs : List A} → All Q xs → All Q (take k xs)
  all_take zero all_nil = all_nil
  all_take zero (all_cons q qs) = all_nil
  all_take (suc k) all_nil = all_nil
  all_take (suc k) (all_cons q qs) = all_cons q (all_take k qs)

  pub all_drop : {Q : A → Type 0} (k : ℕ) {xs : List A} → All Q xs → All Q (drop k xs)
  all_drop zero all_nil = all_nil
  all_drop zero (all_cons q qs) = all_cons q qs
  all_drop (suc k) all_nil = all_nil
  all_drop (suc k) (all_cons q qs) = all_drop k qs

  pub all-reverse : {Q : A → Type 0} (xs : List A) → All Q xs → All Q (reverse xs)
  all-reverse [] q = all_nil
  all-reverse (x ∷ xs) (all_cons q qs) = rw (reverse-cons x xs) (all_append (all-reverse xs qs) (all_cons q all_nil))

  -- ---- the test
  pub every-all : (t : A → Bool) (xs : List A) → every t xs ≡ true → All (λ x. t x ≡ true) xs
  unfolding every
  every-all t [] e = all_nil
  every-all t (x ∷ xs) e = let b = cond_both (t x) (every t xs) e in all_cons b.0 (every-all t xs b.1)

  pub all-every : (t : A → Bool) {xs : List A} → All (λ x. t x ≡ true) xs → every t xs ≡ true
  unfolding every
  all-every t all_nil = refl
  all-every t (all_cons q qs) = rw q (all-every t qs)
