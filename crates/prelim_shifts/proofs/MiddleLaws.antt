-- Laws of the least and of the ⌈s/2⌉-th smallest of a list. A number m stands at place k of the sorted list if at most k are
-- below it and more than k do not exceed it. Assumes nothing.
use Prim.Native.Nat.{ℕ, zero, suc, ◌+◌, ◌-◌, ◌/◌, ◌<◌, ◌≤◌}
use mathlib.Core.Path.{◌≡◌, refl, ◌∙◌, ap}
use mathlib.Core.Bool.{Bool, true, false, cond}
use mathlib.Core.List.{List, [], ◌∷◌}
use native.Mathlib.Omega.{arith}
use native.Mathlib.Numerals.{add-one}
use lib.ListN.{length, get_or, drop, drop_of_length-le}
use lib.Seq.{drop-cons}
use mir.Val.{bool_byte}
use lib.IntN.{ℤ, pos, ◌+ℤ◌}
use lib.Signed.{le_z, lt_z}
use Rattle.std.proofs.Common.{EachIndex}
use Rattle.ints.specs.Ints.{P, N, size, ◌⊑◌, min_z, gap, SizedTo}
use Rattle.ints.proofs.Reach.{sized-tail}
use Rattle.ints.proofs.Laws.{ints, cases_z, if-ind, sum, gap-ge, gap-l, gap-r, least, make-le-true, make-le-false, make-lt-true, make-lt-false, eq-make}
use Rattle.preliminary.specs.Shift.{insert, sort, middle, least_of, least_or}
use Rattle.prelim_shifts.specs.inner.Counts.{count_to, NoneAbove}

-- how many are below z
unfoldable pub count_below : ℤ → List ℤ → ℕ
count_below z [] = 0
count_below z (x ∷ xs) =
    let more = count_below z xs in
    let here = suc more in
    cond (lt_z x z) here more

module _ (z x : ℤ) (xs : List ℤ) where
  pub to_in : P x + N z ≤ P z + N x → count_to z (x ∷ xs) ≡ suc (count_to z xs)
  unfolding count_to
  to_in h = rw (make-le-true x z h)

  pub to_out : P z + N x < P x + N z → count_to z (x ∷ xs) ≡ count_to z xs
  unfolding count_to
  to_out h = rw (make-le-false x z h)

  pub below_in : P x + N z < P z + N x → count_below z (x ∷ xs) ≡ suc (count_below z xs)
  unfolding count_below
  below_in h = rw (make-lt-true x z h)

  pub below_out : P z + N x ≤ P x + N z → count_below z (x ∷ xs) ≡ count_below z xs
  unfolding count_below
  below_out h = rw (make-lt-false x z h)

pub to_none : (z : ℤ) → count_to z [] ≡ 0
unfolding count_to
to_none z = refl

pub below_none : (z : ℤ) → count_below z [] ≡ 0
unfolding count_below
below_none z = refl

-- ---- sorting keeps the counts
insert-to : (z x : ℤ) (ys : List ℤ) → count_to z (insert x ys) ≡ count_to z (x ∷ ys)
unfolding insert
insert-to z x [] = refl
insert-to z x (y ∷ ys) = cases_z x y
    (λ h. rw (make-le-true x y h))
    (λ h. rw (make-le-false x y h) (let i = insert-to z x ys in cases_z x z
    (λ a. cases_z y z (λ b. omega (arith, i, to_in z y (insert x ys) b, to_in z x ys a, to_in z x (y ∷ ys) a, to_in z y ys b))
    (λ b. omega (arith, i, to_out z y (insert x ys) b, to_in z x ys a, to_in z x (y ∷ ys) a, to_out z y ys b)))
    (λ a. cases_z y z (λ b. omega (arith, i, to_in z y (insert x ys) b, to_out z x ys a, to_out z x (y ∷ ys) a, to_in z y ys b))
    (λ b. omega (arith, i, to_out z y (insert x ys) b, to_out z x ys a, to_out z x (y ∷ ys) a, to_out z y ys b)))))

insert-below : (z x : ℤ) (ys : List ℤ) → count_below z (insert x ys) ≡ count_below z (x ∷ ys)
unfolding insert
insert-below z x [] = refl
insert-below z x (y ∷ ys) = cases_z x y
    (λ h. rw (make-le-true x y h))
    (λ h. rw (make-le-false x y h) (let i = insert-below z x ys in cases_z z x
    (λ a. cases_z z y (λ b. omega (arith, i, below_out z y (insert x ys) b, below_out z x ys a, below_out z x (y ∷ ys) a, below_out z y ys b))
    (λ b. omega (arith, i, below_in z y (insert x ys) b, below_out z x ys a, below_out z x (y ∷ ys) a, below_in z y ys b)))
    (λ a. cases_z z y (λ b. omega (arith, i, below_out z y (insert x ys) b, below_in z x ys a, below_in z x (y ∷ ys) a, below_out z y ys b))
    (λ b. omega (arith, i, below_in z y (insert x ys) b, below_in z x ys a, below_in z x (y ∷ ys) a, below_in z y ys b)))))

cons-to : (z x : ℤ) (xs ys : List ℤ) → count_to z xs ≡ count_to z ys → count_to z (x ∷ xs) ≡ count_to z (x ∷ ys)
unfolding count_to
cons-to z x xs ys e = rw e

cons-below : (z x : ℤ) (xs ys : List ℤ) → count_below z xs ≡ count_below z ys → count_below z (x ∷ xs) ≡ count_below z (x ∷ ys)
unfolding count_below
cons-below z x xs ys e = rw e

pub sort-to : (z : ℤ) (xs : List ℤ) → count_to z (sort xs) ≡ count_to z xs
unfolding sort
sort-to z [] = refl
sort-to z (x ∷ xs) = insert-to z x (sort xs) ∙ cons-to z x (sort xs) xs (sort-to z xs)

pub sort-below : (z : ℤ) (xs : List ℤ) → count_below z (sort xs) ≡ count_below z xs
unfolding sort
sort-below z [] = refl
sort-below z (x ∷ xs) = insert-below z x (sort xs) ∙ cons-below z x (sort xs) xs (sort-below z xs)

-- ---- sorted lists
-- nothing in a list is below y
data AtLeast (y : ℤ) : List ℤ → Type 0 where
  none : AtLeast y []
  one : {x : ℤ} {xs : List ℤ} → P y + N x ≤ P x + N y → AtLeast y xs → AtLeast y (x ∷ xs)

data Sorted : List ℤ → Type 0 where
  none : Sorted []
  one : {x : ℤ} {xs : List ℤ} → AtLeast x xs → Sorted xs → Sorted (x ∷ xs)

least-less : (y z : ℤ) (xs : List ℤ) → P z + N y ≤ P y + N z → AtLeast y xs → AtLeast z xs
least-less y z [] h none = none
least-less y z (x ∷ xs) h (one e a) = one {x = x} (omega arith) (least-less y z xs h a)

insert-least : (y x : ℤ) (ys : List ℤ) → P y + N x ≤ P x + N y → AtLeast y ys → AtLeast y (insert x ys)
unfolding insert
insert-least y x [] h none = one h none
insert-least y x (w ∷ ys) h (one e a) = cases_z x w
    (λ k. rw (make-le-true x w k) (one h (one e a)))
    (λ k. rw (make-le-false x w k) (one e (insert-least y x ys h a)))

insert-sorted : (x : ℤ) (ys : List ℤ) → Sorted ys → Sorted (insert x ys)
unfolding insert
insert-sorted x [] none = one none none
insert-sorted x (w ∷ ys) (one a s) = cases_z x w
    (λ k. rw (make-le-true x w k) (one (one k (least-less w x ys k a)) (one a s)))
    (λ k. rw (make-le-false x w k) (one (insert-least w x ys (omega arith) a) (insert-sorted x ys s)))

sort_sorted : (xs : List ℤ) → Sorted (sort xs)
unfolding sort
sort_sorted [] = none
sort_sorted (x ∷ xs) = insert-sorted x (sort xs) (sort_sorted xs)

least-to : (y z : ℤ) (xs : List ℤ) → P z + N y < P y + N z → AtLeast y xs → count_to z xs ≡ 0
least-to y z [] h none = to_none z
least-to y z (x ∷ xs) h (one e a) = to_out z x xs (omega arith) ∙ least-to y z xs h a

least-below : (y z : ℤ) (xs : List ℤ) → P z + N y ≤ P y + N z → AtLeast y xs → count_below z xs ≡ 0
least-below y z [] h none = below_none z
least-below y z (x ∷ xs) h (one e a) = below_out z x xs (omega arith) ∙ least-below y z xs h a

at_place : (m d : ℤ) (k : ℕ) (ys : List ℤ) → Sorted ys → count_below m ys ≤ k → k < count_to m ys → get_or ys k d ≡ m
at_place m d k [] none b t = absurd (omega (arith, to_none m))
at_place m d zero (y ∷ ys) (one a s) b t = cases_z m y
    (λ h. cases_z y m (λ g. eq-make y m (omega arith)) (λ g. absurd (omega (arith, to_out m y ys g, least-to y m ys g a))))
    (λ h. absurd (omega (arith, below_in m y ys h)))
at_place m d (suc k) (y ∷ ys) (one a s) b t = cases_z m y
    (λ h. cases_z y m
    (λ g. at_place m d k ys s (omega (arith, least-below y m ys h a)) (omega (arith, to_in m y ys g)))
    (λ g. absurd (omega (arith, to_out m y ys g, least-to y m ys g a))))
    (λ h. at_place m d k ys s (omega (arith, below_in m y ys h)) (omega (arith, to_in m y ys (omega arith))))

pub middle-is : (m : ℤ) (xs : List ℤ) (k : ℕ) → k ≡ (length xs + 1) / 2 → count_below m xs < k → k ≤ count_to m xs → middle xs ≡ m
unfolding middle
middle-is m xs k e b t = at_place m (pos 0) ((length xs + 1) / 2 - 1) (sort xs) (sort_sorted xs) (omega (arith, sort-below m xs)) (omega (arith, sort-to m xs))

pub middle-none : (xs : List ℤ) → length xs ≡ 0 → middle xs ≡ pos 0
unfolding middle sort
middle-none [] e = refl
middle-none (x ∷ xs) e = absurd (omega arith)

-- ---- bounds of the search
pub to_le : (z : ℤ) (xs : List ℤ) → count_to z xs ≤ length xs
to_le z [] = omega (arith, to_none z)
to_le z (x ∷ xs) = cases_z x z (λ h. omega (arith, to_in z x xs h, to_le z xs)) (λ h. omega (arith, to_out z x xs h, to_le z xs))

-- at z all are counted, where none is above it
pub to-each : (z : ℤ) (xs : List ℤ) → ((i : ℕ) → i < length xs → get_or xs i (pos 0) ⊑ z) → count_to z xs ≡ length xs
to-each z [] h = to_none z
to-each z (x ∷ xs) h = to_in z x xs (h 0 (omega arith)) ∙ ap suc (to-each z xs (λ i k. h (suc i) (omega arith)))

-- below the least there is none, and it is no further from 0 than all are
least-at-least : (x : ℤ) (xs : List ℤ) → AtLeast (least_of x xs) (x ∷ xs)
unfolding least_of
least-at-least x [] = one {x = x} (omega arith) none
least-at-least x (y ∷ ys) = go (least-at-least (min_z x y) ys)
  where
    go : AtLeast (least_of (min_z x y) ys) (min_z x y ∷ ys) → AtLeast (least_of (min_z x y) ys) (x ∷ y ∷ ys)
    go (one h a) = let m = least x y in one {x = x} (omega arith) (one {x = y} (omega arith) a)

pub below-least : (other : ℤ) (xs : List ℤ) → 0 < length xs → count_below (least_or other xs) xs ≡ 0
below-least other [] h = absurd (omega arith)
below-least other (x ∷ xs) h = least-below (least_of x xs) (least_of x xs) (x ∷ xs) (omega arith) (least-at-least x xs)

least-sized : (m : ℕ) (x : ℤ) (xs : List ℤ) → size x ≤ m → SizedTo m xs → size (least_of x xs) ≤ m
unfolding least_of
least-sized m x [] h s = h
least-sized m x (y ∷ ys) h s = least-sized m (min_z x y) ys (if-ind (lt_z y x) y x (λ z. size z ≤ m) (λ t. s.each 0) (λ t. h)) (sized-tail m y ys s)

pub least-or-sized : (m : ℕ) (other : ℤ) (xs : List ℤ) → 0 < length xs → SizedTo m xs → size (least_or other xs) ≤ m
least-or-sized m other [] h s = absurd (omega arith)
least-or-sized m other (x ∷ xs) h s = least-sized m x xs (s.each 0) (sized-tail m x xs s)

-- the search begins with none below its lower end and none above its upper end
module _ (xs : List ℤ) (base top : ℤ) (n : ℕ) (s : SizedTo n xs) (some : 0 < length xs) (low : base ≡ least_or (pos 0) xs) (high : NoneAbove top xs) where
  pub base-sized : size base ≤ n
  base-sized = rw low (least-or-sized n (pos 0) xs some s)

  pub below-base : count_below (base +ℤ pos 0) xs ≡ 0
  below-base =
      let e : base +ℤ pos 0 ≡ base = omega (arith, ints, sum base (pos 0)) in
      rw (e, low) (below-least (pos 0) xs some)

  pub to-top : count_to (base +ℤ pos (gap base top)) xs ≡ length xs
  to-top = to-each (base +ℤ pos (gap base top)) xs (λ i h. omega (arith, high.each i h, gap-ge base top, sum base (pos (gap base top))))

  pub reach-small : size top ≤ n → gap base top ≤ n + n
  reach-small h = let k = base-sized in cases_z base top (λ m. omega (arith, gap-l base top m)) (λ m. omega (arith, gap-r base top (omega arith)))

-- what is below the next number does not exceed this one
pub below_next : (z y : ℤ) (xs : List ℤ) → P y + N z ≤ P z + N y + 1 → count_below y xs ≤ count_to z xs
below_next z y [] h = omega (arith, below_none y)
below_next z y (x ∷ xs) h = let i = below_next z y xs h in cases_z y x
    (λ a. cases_z x z (λ b. omega (arith, below_out y x xs a, to_in z x xs b)) (λ b. omega (arith, below_out y x xs a, to_out z x xs b)))
    (λ a. omega (arith, below_in y x xs a, to_in z x xs (omega arith)))

-- ---- counting, one by one
byte-adds : (b : Bool) (n : ℕ) → bool_byte b + n ≡ cond b (suc n) n
byte-adds true n = omega arith
byte-adds false n = omega arith

pub byte-small : (b : Bool) → bool_byte b ≤ 1
byte-small true = omega arith
byte-small false = omega arith

pub to_on : (z : ℤ) (xs : List ℤ) (i : ℕ) → i < length xs → bool_byte (le_z (get_or xs i (pos 0)) z) + count_to z (drop (i + 1) xs) ≡ count_to z (drop i xs)
unfolding count_to
to_on z xs i h = rw (add-one, drop-cons xs i (pos 0) h) (byte-adds (le_z (get_or xs i (pos 0)) z) (count_to z (drop (suc i) xs)))

pub to_end : (z : ℤ) (xs : List ℤ) (i : ℕ) → length xs ≤ i → count_to z (drop i xs) ≡ 0
to_end z xs i h = rw (drop_of_length-le xs h) (to_none z)

-- ---- the least is none above it that bounds them all from below
low-of : (z x : ℤ) (xs : List ℤ) → z ⊑ x → EachIndex xs (λ k. z ⊑ get_or xs k (pos 0)) → z ⊑ least_of x xs
unfolding least_of
low-of z x [] h k = h
low-of z x (y ∷ ys) h k = low-of z (min_z x y) ys (if-ind (lt_z y x) y x (λ w. z ⊑ w) (λ t. k 0 (omega arith)) (λ t. h)) (λ i j. k (suc i) (omega arith))

at-each : (y : ℤ) (xs : List ℤ) → AtLeast y xs → EachIndex xs (λ k. y ⊑ get_or xs k (pos 0))
at-each y [] none i h = absurd (omega arith)
at-each y (x ∷ xs) (one e a) zero h = omega arith
at-each y (x ∷ xs) (one e a) (suc i) h = at-each y xs a i (omega arith)

pub least-is : (other m : ℤ) (xs : List ℤ) → 0 < length xs → EachIndex xs (λ k. m ⊑ get_or xs k (pos 0)) → ((y : ℤ) → EachIndex xs (λ k. y ⊑ get_or xs k (pos 0)) → y ⊑ m) → m ≡ least_or other xs
least-is other m [] h a b = absurd (omega arith)
least-is other m (x ∷ xs) h a b =
    let low = low-of m x xs (a 0 (omega arith)) (λ i j. a (suc i) (omega arith)) in
    let up = b (least_of x xs) (at-each (least_of x xs) (x ∷ xs) (least-at-least x xs)) in
    eq-make m (least_of x xs) (omega arith)
