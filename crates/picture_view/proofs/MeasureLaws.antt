-- The greatest number of a list and the extremes of integers, as loops find them; that they are extremes, and how large they are.
-- Assumes nothing.
use mathlib.Core.Path.{◌≡◌, refl}
use mathlib.Core.Bool.{Bool, true, false, cond}
use mathlib.Core.List.{List, [], ◌∷◌, map}
use Prim.Native.Nat.{ℕ, zero, suc, ◌+◌, ◌-◌, ◌*◌, ◌≤◌, ◌<◌, max}
use native.Mathlib.Omega.{arith}
use Rattle.std.specs.Prelude.{fold}
use Rattle.std.specs.Option.{unwrap_or}
use Rattle.std.specs.List.{reduce}
use lib.ListN.{length, get_or}
use lib.IntN.{ℤ, pos}
use lib.Signed.{lt_z}
use Rattle.ints.specs.Lists.{greatest}
use Rattle.ints.specs.Ints.{size, ◌⊑◌, min_z, max_z}
use Rattle.ints.specs.Reach.{reach, all_within}
use mir.Syntax.{w64}
use mir.Val.{to_z, of_z}
use Rattle.ints.proofs.Laws.{back, fit-make, sum, dif, least, most}
use Rattle.ints.proofs.Reach.{within-at}
use Rattle.plan.specs.Plan.{numbers}
use Rattle.passes.specs.State.{position_of}
use Rattle.picture_view.specs.Measure.{left_edge, right_edge, least_of, most_of, leftmost, rightmost}

-- ---- the greatest half-width
greatest-past : (n : ℕ) (ns : List ℕ) → fold max n ns ≡ max n (greatest ns)
unfolding greatest
greatest-past n [] = omega arith
greatest-past n (m ∷ ns) = omega (arith, greatest-past (max n m) ns)

pub greatest_is : (ns : List ℕ) → unwrap_or (reduce max ns) 0 ≡ greatest ns
unfolding greatest
greatest_is [] = refl
greatest_is (n ∷ ns) = greatest-past n ns

pub greatest-at : (ns : List ℕ) (i : ℕ) → get_or ns i 0 ≤ greatest ns
unfolding greatest
greatest-at [] i = omega arith
greatest-at (n ∷ ns) zero = omega arith
greatest-at (n ∷ ns) (suc i) = omega (arith, greatest-at ns i)

-- ---- the least and the greatest of n integers, from the v-th on
module _ (e : ℕ → ℤ) where
  pub least-next : (x : ℤ) (v n : ℕ) → v < n → least_of x (map e (numbers v (n - v))) ≡ least_of (min_z x (e v)) (map e (numbers (v + 1) (n - (v + 1))))
  unfolding least_of numbers
  least-next x v n h = let k : n - v ≡ suc (n - (v + 1)) = omega arith in rw k

  pub least-end : (x : ℤ) (v n : ℕ) → n ≤ v → least_of x (map e (numbers v (n - v))) ≡ x
  unfolding least_of numbers
  least-end x v n h = let k : n - v ≡ 0 = omega arith in rw k

  pub most-next : (x : ℤ) (v n : ℕ) → v < n → most_of x (map e (numbers v (n - v))) ≡ most_of (max_z x (e v)) (map e (numbers (v + 1) (n - (v + 1))))
  unfolding most_of numbers
  most-next x v n h = let k : n - v ≡ suc (n - (v + 1)) = omega arith in rw k

  pub most-end : (x : ℤ) (v n : ℕ) → n ≤ v → most_of x (map e (numbers v (n - v))) ≡ x
  unfolding most_of numbers
  most-end x v n h = let k : n - v ≡ 0 = omega arith in rw k

  -- no more than the first, and no more than each
  least_first : (x : ℤ) (a k : ℕ) → least_of x (map e (numbers a k)) ⊑ x
  unfolding least_of numbers
  least_first x a zero = omega arith
  least_first x a (suc k) = omega (arith, least_first (min_z x (e a)) (a + 1) k, least x (e a))

  least-each : (x : ℤ) (a k i : ℕ) → i < k → least_of x (map e (numbers a k)) ⊑ e (a + i)
  unfolding least_of numbers
  least-each x a zero i h = absurd (omega arith)
  least-each x a (suc k) zero h = let z : a + 0 ≡ a = omega arith in rw z (omega (arith, least_first (min_z x (e a)) (a + 1) k, least x (e a)))
  least-each x a (suc k) (suc i) h = let z : a + suc i ≡ a + 1 + i = omega arith in rw z (least-each (min_z x (e a)) (a + 1) k i (omega arith))

  most-first : (x : ℤ) (a k : ℕ) → x ⊑ most_of x (map e (numbers a k))
  unfolding most_of numbers
  most-first x a zero = omega arith
  most-first x a (suc k) = omega (arith, most-first (max_z x (e a)) (a + 1) k, most x (e a))

  most-each : (x : ℤ) (a k i : ℕ) → i < k → e (a + i) ⊑ most_of x (map e (numbers a k))
  unfolding most_of numbers
  most-each x a zero i h = absurd (omega arith)
  most-each x a (suc k) zero h = let z : a + 0 ≡ a = omega arith in rw z (omega (arith, most-first (max_z x (e a)) (a + 1) k, most x (e a)))
  most-each x a (suc k) (suc i) h = let z : a + suc i ≡ a + 1 + i = omega arith in rw z (most-each (max_z x (e a)) (a + 1) k i (omega arith))

  -- no further from 0 than all are
  module _ (m : ℕ) (far : (i : ℕ) → size (e i) ≤ m) where
    least_size : (x : ℤ) (a k : ℕ) → size x ≤ m → size (least_of x (map e (numbers a k))) ≤ m
    unfolding least_of numbers
    least_size x a zero h = h
    least_size x a (suc k) h = least_size (min_z x (e a)) (a + 1) k (either x (e a) h (far a))
      where
        either : (x y : ℤ) → size x ≤ m → size y ≤ m → size (min_z x y) ≤ m
        either x y h k = if-least (lt_z y x)
          where
            if-least : (t : Bool) → size (cond t y x) ≤ m
            if-least true = k
            if-least false = h

    most-size : (x : ℤ) (a k : ℕ) → size x ≤ m → size (most_of x (map e (numbers a k))) ≤ m
    unfolding most_of numbers
    most-size x a zero h = h
    most-size x a (suc k) h = most-size (max_z x (e a)) (a + 1) k (either x (e a) h (far a))
      where
        either : (x y : ℤ) → size x ≤ m → size y ≤ m → size (max_z x y) ≤ m
        either x y h k = if-most (lt_z x y)
          where
            if-most : (t : Bool) → size (cond t y x) ≤ m
            if-most true = k
            if-most false = h

-- ---- the ends of a drawing
module _ (halves : List ℕ) (xs : List ℤ) where
  pub leftmost-each : (v : ℕ) → v < length xs → leftmost halves xs ⊑ left_edge halves xs v
  unfolding leftmost
  leftmost-each v h = let z : 0 + v ≡ v = omega arith in rw z at (least-each (left_edge halves xs) (left_edge halves xs 0) 0 (length xs) v h)

  pub rightmost-each : (v : ℕ) → v < length xs → right_edge halves xs v ⊑ rightmost halves xs
  unfolding rightmost
  rightmost-each v h = let z : 0 + v ≡ v = omega arith in rw z at (most-each (right_edge halves xs) (right_edge halves xs 0) 0 (length xs) v h)

  module _ (narrow : (v : ℕ) → get_or halves v 0 ≤ 200) (near : all_within xs ≡ true) where
    left_far : (v : ℕ) → size (left_edge halves xs v) ≤ reach + 400
    left_far v = omega (arith, dif (position_of xs v) (pos (2 * get_or halves v 0)), within-at xs v near, narrow v)

    right_far : (v : ℕ) → size (right_edge halves xs v) ≤ reach + 400
    right_far v = omega (arith, sum (position_of xs v) (pos (2 * get_or halves v 0)), within-at xs v near, narrow v)

    pub leftmost-size : size (leftmost halves xs) ≤ reach + 400
    unfolding leftmost
    leftmost-size = least_size (left_edge halves xs) (reach + 400) left_far (left_edge halves xs 0) 0 (length xs) (left_far 0)

    pub rightmost-size : size (rightmost halves xs) ≤ reach + 400
    unfolding rightmost
    rightmost-size = most-size (right_edge halves xs) (reach + 400) right_far (right_edge halves xs 0) 0 (length xs) (right_far 0)

-- a position within ±2^40 reads back from its bits
pub stored_at : (xs : List ℤ) (v : ℕ) → all_within xs ≡ true → to_z w64 (of_z w64 (position_of xs v)) ≡ position_of xs v
stored_at xs v near = back (fit-make (position_of xs v) (omega (arith, within-at xs v near)))
