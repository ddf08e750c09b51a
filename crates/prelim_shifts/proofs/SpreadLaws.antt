-- How far the shift of one class can bring a vertex: its members stand from 0 to 512,000 before it, so each offset is at most
-- as far as the others stand, and at least as far the other way and 512,500 more. Assumes nothing.
use Prim.Native.Nat.{ℕ, zero, suc, ◌+◌, ◌-◌, ◌/◌, ◌<◌, ◌≤◌}
use mathlib.Core.Path.{◌≡◌, refl, ap}
use mathlib.Core.Bool.{Bool, true, false, cond, not, ◌&&◌}
use mathlib.Core.List.{List, [], ◌∷◌}
use native.Mathlib.Omega.{arith}
use borrow.Author.Tests.{eq-eqb, ne_eqb, eqb-true}
use lib.Dec.{ltb, eqb}
use lib.ListN.{length, get_or, get_or-eq_default}
use lib.IntN.{ℤ, pos, ◌+ℤ◌, ◌-ℤ◌}
use lib.Signed.{lt_z, le_z}
use Rattle.ints.specs.Ints.{P, N, size, min_z}
use Rattle.ints.proofs.Laws.{cases, if-ind, sum, dif, apart}
use Rattle.plan.specs.Plan.{PlanData, Siblings, distance}
use Rattle.plan.specs.Segments.{Segment, segments_of}
use Rattle.plan.proofs.CountLaws.{by-same}
use Rattle.preliminary.specs.Shift.{gaps_in, offsets_in, insert, sort, middle, least_of, least_or, shift_of, moved}
use Rattle.prelim_shifts.specs.inner.Shifts.{Spread}

pub record InRange (m : ℕ) (x : ℤ) : Type 0 where
  pub up : P x ≤ m
  pub down : N x ≤ m + 512500

data AllIn (m : ℕ) : List ℤ → Type 0 where
  none : AllIn m []
  one : {x : ℤ} {xs : List ℤ} → InRange m x → AllIn m xs → AllIn m (x ∷ xs)

module _ (m : ℕ) where
  zero_in : InRange m (pos 0)
  zero_in = record { up = omega arith; down = omega arith }

  least-of-in : (x : ℤ) (xs : List ℤ) → InRange m x → AllIn m xs → InRange m (least_of x xs)
  unfolding least_of
  least-of-in x [] r none = r
  least-of-in x (y ∷ ys) r (one s a) = least-of-in (min_z x y) ys (if-ind (lt_z y x) y x (InRange m) (λ t. s) (λ t. r)) a

  least-in : (other : ℤ) (xs : List ℤ) → InRange m other → AllIn m xs → InRange m (least_or other xs)
  least-in other [] r none = r
  least-in other (x ∷ xs) r (one s a) = least-of-in x xs s a

  insert-in : (x : ℤ) (xs : List ℤ) → InRange m x → AllIn m xs → AllIn m (insert x xs)
  unfolding insert
  insert-in x [] r none = one r none
  insert-in x (y ∷ ys) r (one s a) = if-ind (le_z x y) (x ∷ y ∷ ys) (y ∷ insert x ys) (AllIn m) (λ t. one r (one s a)) (λ t. one s (insert-in x ys r a))

  sort-in : (xs : List ℤ) → AllIn m xs → AllIn m (sort xs)
  unfolding sort
  sort-in [] none = none
  sort-in (x ∷ xs) (one r a) = insert-in x (sort xs) r (sort-in xs a)

  at_in : (xs : List ℤ) (i : ℕ) → AllIn m xs → InRange m (get_or xs i (pos 0))
  at_in [] i none = zero_in
  at_in (x ∷ xs) zero (one r a) = r
  at_in (x ∷ xs) (suc i) (one r a) = at_in xs i a

  middle-in : (xs : List ℤ) → AllIn m xs → InRange m (middle xs)
  unfolding middle
  middle-in xs a = at_in (sort xs) ((length xs + 1) / 2 - 1) (sort-in xs a)

-- a test of two parts that holds
both_true : (a b : Bool) → (a && b) ≡ true → a ≡ true
both_true true b h = refl
both_true false b h = h

module _ (c m : ℕ) (classes : List ℕ) (xs : List ℤ) (s : Spread c m classes xs) where
  difference-in : (u v : ℕ) → get_or classes v 0 ≡ c → InRange m (get_or xs u (pos 0) -ℤ get_or xs v (pos 0))
  difference-in u v e =
      let a = get_or xs u (pos 0) in
      let b = get_or xs v (pos 0) in
      record { up = omega (arith, dif a b, s.each u, s.least v (omega arith)); down = omega (arith, dif a b, s.each u, s.most v (omega arith)) }

  slack-in : (d u v : ℕ) → d ≤ 500 → get_or classes v 0 ≡ c → InRange m ((get_or xs u (pos 0) -ℤ get_or xs v (pos 0)) -ℤ pos d)
  slack-in d u v h e =
      let a = get_or xs u (pos 0) in
      let b = get_or xs v (pos 0) in
      record { up = omega (arith, dif a b, dif (a -ℤ b) (pos d), s.each u, s.least v (omega arith)); down = omega (arith, dif a b, dif (a -ℤ b) (pos d), s.each u, s.most v (omega arith)) }

  gaps-in : (p : PlanData) (ss : List Siblings) → ((u v : ℕ) → distance p u v ≤ 500) → AllIn m (gaps_in p classes xs c ss)
  unfolding gaps_in
  gaps-in p [] d = none
  gaps-in p (t ∷ ss) d =
      let more = gaps-in p ss d in
      let test = eqb (get_or classes t.left 0) c && not (eqb (get_or classes t.right 0) c) in
      if-ind test (((get_or xs t.right (pos 0) -ℤ get_or xs t.left (pos 0)) -ℤ pos (distance p t.left t.right)) ∷ gaps_in p classes xs c ss) (gaps_in p classes xs c ss) (AllIn m)
      (λ h. one (slack-in (distance p t.left t.right) t.right t.left (d t.left t.right) (eqb-true (get_or classes t.left 0) c (both_true (eqb (get_or classes t.left 0) c) (not (eqb (get_or classes t.right 0) c)) h))) more)
      (λ h. more)

  offsets-in : (ss : List Segment) → AllIn m (offsets_in classes xs c ss)
  unfolding offsets_in
  offsets-in [] = none
  offsets-in (t ∷ ss) =
      let more = offsets-in ss in
      let a = t.upper in
      let b = t.lower in
      let first = eqb (get_or classes a 0) c && ltb (get_or classes b 0) c in
      let second = eqb (get_or classes b 0) c && ltb (get_or classes a 0) c in
      if-ind first ((get_or xs b (pos 0) -ℤ get_or xs a (pos 0)) ∷ offsets_in classes xs c ss) (cond second ((get_or xs a (pos 0) -ℤ get_or xs b (pos 0)) ∷ offsets_in classes xs c ss) (offsets_in classes xs c ss)) (AllIn m)
      (λ h. one (difference-in b a (eqb-true (get_or classes a 0) c (both_true (eqb (get_or classes a 0) c) (ltb (get_or classes b 0) c) h))) more)
      (λ h. if-ind second ((get_or xs a (pos 0) -ℤ get_or xs b (pos 0)) ∷ offsets_in classes xs c ss) (offsets_in classes xs c ss) (AllIn m)
      (λ k. one (difference-in a b (eqb-true (get_or classes b 0) c (both_true (eqb (get_or classes b 0) c) (ltb (get_or classes a 0) c) k))) more)
      (λ k. more))

  pub shift_in : (p : PlanData) (ss : List Siblings) → ((u v : ℕ) → distance p u v ≤ 500) → InRange m (shift_of p ss classes c xs)
  unfolding shift_of
  shift_in p ss d = least-in m (middle (offsets_in classes xs c (segments_of p))) (gaps_in p classes xs c ss) (middle-in m (offsets_in classes xs c (segments_of p)) (offsets-in (segments_of p))) (gaps-in p ss d)

-- ---- after a shift
moved_at : (c : ℕ) (d : ℤ) (classes : List ℕ) (xs : List ℤ) (v : ℕ) → length xs ≡ length classes → v < length xs → get_or (moved c d classes xs) v (pos 0) ≡ cond (eqb (get_or classes v 0) c) (get_or xs v (pos 0) +ℤ d) (get_or xs v (pos 0))
unfolding moved
moved_at c d [] xs v e h = absurd (omega arith)
moved_at c d (k ∷ ks) [] v e h = absurd (omega arith)
moved_at c d (k ∷ ks) (x ∷ xs) zero e h = refl
moved_at c d (k ∷ ks) (x ∷ xs) (suc v) e h = moved_at c d ks xs v (omega arith) (omega arith)

pub moved-long : (c : ℕ) (d : ℤ) (classes : List ℕ) (xs : List ℤ) → length xs ≡ length classes → length (moved c d classes xs) ≡ length xs
unfolding moved
moved-long c d [] [] e = refl
moved-long c d [] (x ∷ xs) e = absurd (omega arith)
moved-long c d (k ∷ ks) [] e = absurd (omega arith)
moved-long c d (k ∷ ks) (x ∷ xs) e = ap suc (moved-long c d ks xs (omega arith))

module _ (c m : ℕ) (d : ℤ) (classes : List ℕ) (xs : List ℤ) (e : length xs ≡ length classes) (s : Spread c m classes xs) (r : InRange m d) where
  near-size : (x : ℤ) → P x ≤ 512000 → N x ≡ 0 → size (x +ℤ d) ≤ m + 512500
  near-size x h k = omega (arith, sum x d, apart (x +ℤ d), r.up, r.down)

  past : (v : ℕ) → length xs ≤ v → get_or (moved c d classes xs) v (pos 0) ≡ pos 0
  past v h = get_or-eq_default (moved c d classes xs) (pos 0) (omega (arith, moved-long c d classes xs e))

  pub spread-on : Spread (c + 1) (m + 512500) classes (moved c d classes xs)
  spread-on = record {
    each = λ v. cases (length xs) v
        (λ h. rw (past v h) (omega arith))
        (λ h. by-same (get_or classes v 0) c
        (λ q. rw (moved_at c d classes xs v e h, eq-eqb (get_or classes v 0) c q) (near-size (get_or xs v (pos 0)) (s.most v (omega arith)) (s.least v (omega arith))))
        (λ q. rw (moved_at c d classes xs v e h, ne_eqb (get_or classes v 0) c q) (omega (arith, s.each v))));
    least = λ v k. stays v k (λ (x : ℤ). N x ≡ 0) (s.least v (omega arith));
    most = λ v k. stays v k (λ (x : ℤ). P x ≤ 512000) (s.most v (omega arith));
  }
    where
      stays : (v : ℕ) → c + 1 ≤ get_or classes v 0 → (Q : ℤ → Type 0) → Q (get_or xs v (pos 0)) → Q (get_or (moved c d classes xs) v (pos 0))
      stays v k Q q = cases (length xs) v
          (λ h. absurd (omega (arith, get_or-eq_default {A = ℕ} classes 0 {n = v} (omega arith))))
          (λ h. rw (moved_at c d classes xs v e h, ne_eqb (get_or classes v 0) c (λ z. omega arith)) q)
