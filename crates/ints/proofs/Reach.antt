-- Positions within ±2^40: how far from 0 they are, one of a list and all of it; the test as programs make it; and `SizedTo`.
-- Assumes nothing.
use mathlib.Core.Path.{◌≡◌, refl, sym, ◌∙◌, ap, subst}
use mathlib.Core.Bool.{true, false, ◌&&◌}
use mathlib.Core.List.{List, [], ◌∷◌, ◌++◌, map}
use Prim.Native.Nat.{ℕ, zero, suc, ◌≤◌, ◌<◌}
use native.Mathlib.Omega.{arith}
use borrow.Author.Tests.{leb-true, leb-false, le-leb, lt-leb}
use lib.Dec.{T}
use lib.ListN.{length, get_or, take, drop}
use lib.IntN.{ℤ, pos, negsuc}
use lib.Signed.{le_z}
use Rattle.ints.specs.Ints.{size, SizedTo}
use Rattle.ints.specs.Reach.{reach, is_within, all_within}
use Rattle.ints.proofs.Tests.{and_left, and_right, and_assoc}

-- ---- one position
pub within-size : (x : ℤ) → is_within x ≡ true → size x ≤ reach
within-size (pos n) e = omega (arith, leb-true n reach e)
within-size (negsuc n) e = omega (arith, leb-true (suc n) reach e)

pub within-make : (x : ℤ) → size x ≤ reach → is_within x ≡ true
within-make (pos n) h = le-leb n reach (omega arith)
within-make (negsuc n) h = le-leb (suc n) reach (omega arith)

-- the test from below, then that from above
pub within-high : (x : ℤ) → le_z (negsuc 1099511627775) x ≡ true → le_z x (pos reach) ≡ is_within x
within-high (pos n) e = refl
within-high (negsuc n) e = let h = leb-true n 1099511627775 e in sym (le-leb (suc n) reach (omega arith))

pub within_low : (x : ℤ) → le_z (negsuc 1099511627775) x ≡ false → is_within x ≡ false
within_low (pos n) e = absurd (subst T e tt)
within_low (negsuc n) e = let h = leb-false n 1099511627775 e in lt-leb (suc n) reach (omega arith)

-- ---- all of a list; past its end stands 0
pub within-get : (xs : List ℤ) (i : ℕ) → all_within xs ≡ true → is_within (get_or xs i (pos 0)) ≡ true
unfolding all_within
within-get [] i e = refl
within-get (x ∷ xs) zero e = and_left (is_within x) (all_within xs) e
within-get (x ∷ xs) (suc i) e = within-get xs i (and_right (is_within x) (all_within xs) e)

pub within-at : (xs : List ℤ) (i : ℕ) → all_within xs ≡ true → size (get_or xs i (pos 0)) ≤ reach
within-at xs i e = within-size (get_or xs i (pos 0)) (within-get xs i e)

pub within-each : (xs : List ℤ) → ((i : ℕ) → i < length xs → is_within (get_or xs i (pos 0)) ≡ true) → all_within xs ≡ true
unfolding all_within
within-each [] f = refl
within-each (x ∷ xs) f = rw (f 0 (omega arith), within-each xs (λ i h. f (suc i) (omega arith)))

pub within-cut : (n : ℕ) (xs : List ℤ) → all_within xs ≡ (all_within (take n xs) && all_within (drop n xs))
unfolding all_within
within-cut zero xs = refl
within-cut (suc n) [] = refl
within-cut (suc n) (x ∷ xs) = ap (λ t. is_within x && t) (within-cut n xs) ∙ and_assoc (is_within x) (all_within (take n xs)) (all_within (drop n xs))

pub within-take : (n : ℕ) (xs : List ℤ) → all_within xs ≡ true → all_within (take n xs) ≡ true
within-take n xs e = and_left (all_within (take n xs)) (all_within (drop n xs)) (sym (within-cut n xs) ∙ e)

pub within-drop : (n : ℕ) (xs : List ℤ) → all_within xs ≡ true → all_within (drop n xs) ≡ true
within-drop n xs e = and_right (all_within (take n xs)) (all_within (drop n xs)) (sym (within-cut n xs) ∙ e)

pub within-right : (xs ys : List ℤ) → all_within (xs ++ ys) ≡ true → all_within ys ≡ true
unfolding all_within
within-right [] ys e = e
within-right (x ∷ xs) ys e = within-right xs ys (and_right (is_within x) (all_within (xs ++ ys)) e)

-- ---- not further than m from 0
pub sized-tail : (m : ℕ) (x : ℤ) (xs : List ℤ) → SizedTo m (x ∷ xs) → SizedTo m xs
sized-tail m x xs s = record { each = λ i. s.each (suc i) }

sized-at : {A : Type 0} (m : ℕ) (f : A → ℤ) (ks : List A) → ((k : A) → size (f k) ≤ m) → (i : ℕ) → size (get_or (map f ks) i (pos 0)) ≤ m
sized-at m f [] h i = omega arith
sized-at m f (k ∷ ks) h zero = h k
sized-at m f (k ∷ ks) h (suc i) = sized-at m f ks h i

pub sized-map : {A : Type 0} (m : ℕ) (f : A → ℤ) (ks : List A) → ((k : A) → size (f k) ≤ m) → SizedTo m (map f ks)
sized-map m f ks h = record { each = sized-at m f ks h }
