-- How far shifts take positions: strands are placed in 0 .. 512,000, and each of at most 64 classes widens the bound once, by
-- 512,500. Assumes nothing.
use mathlib.Core.Path.{◌≡◌, refl, sym, ◌∙◌, subst}
use mathlib.Core.Logic.{inl, inr}
use mathlib.Core.Bool.{cond, not, ◌&&◌}
use mathlib.Core.List.{List, [], ◌∷◌}
use Prim.Native.Nat.{ℕ, zero, suc, ◌+◌, ◌-◌, ◌*◌, ◌/◌, ◌≤◌, ◌<◌}
use native.Mathlib.Omega.{arith}
use lib.Dec.{ltb, eqb}
use lib.ListN.{length, get_or}
use lib.IntN.{ℤ, pos, ◌+ℤ◌, ◌-ℤ◌}
use lib.Signed.{lt_z, le_z}
use borrow.Author.Tests.{eqb-true}
use Rattle.ints.specs.Ints.{P, N, min_z}
use Rattle.ints.proofs.Laws.{sum, dif, if-ind}
use Rattle.plan.specs.Plan.{PlanData, vertex_count, distance, Siblings, numbers}
use Rattle.plan.specs.Segments.{Segment, segments_of}
use Rattle.ints.specs.inner.Members.{Mem}
use Rattle.plan.proofs.Sound.{Sound, distance_high}
use Rattle.ints.proofs.Tests.{and_left}
use Rattle.preliminary.specs.Shift.{class_at, place_at, gaps_in, offsets_in, insert, sort, middle, least_of, least_or, shift_of, moved, shift_each}
use Rattle.preliminary.proofs.Give.{alike}
use Rattle.preliminary.proofs.Shifted.{moved-long, moved_in, moved_out}

-- ---- what holds of every number of a list holds of the one that a shift takes
module _ (Q : ℤ → Type 0) where
  abbrev Each : List ℤ → Type 0
  Each xs = (y : ℤ) → Mem y xs → Q y

  each-cons : (x : ℤ) (xs : List ℤ) → Q x → Each xs → Each (x ∷ xs)
  each-cons x xs q f y (inl e) = subst Q (sym e) q
  each-cons x xs q f y (inr m) = f y m

  each-insert : (x : ℤ) (xs : List ℤ) → Q x → Each xs → Each (insert x xs)
  unfolding insert
  each-insert x [] q f = each-cons x [] q f
  each-insert x (y ∷ ys) q f = if-ind (le_z x y) (x ∷ y ∷ ys) (y ∷ insert x ys) Each (λ t. each-cons x (y ∷ ys) q f)
      (λ t. each-cons y (insert x ys) (f y (inl refl)) (each-insert x ys q (λ z m. f z (inr m))))

  each-sort : (xs : List ℤ) → Each xs → Each (sort xs)
  unfolding sort
  each-sort [] f = f
  each-sort (x ∷ xs) f = each-insert x (sort xs) (f x (inl refl)) (each-sort xs (λ z m. f z (inr m)))

  each_read : (xs : List ℤ) (i : ℕ) → Q (pos 0) → Each xs → Q (get_or xs i (pos 0))
  each_read [] i z f = z
  each_read (x ∷ xs) zero z f = f x (inl refl)
  each_read (x ∷ xs) (suc i) z f = each_read xs i z (λ y m. f y (inr m))

  each-middle : (xs : List ℤ) → Q (pos 0) → Each xs → Q (middle xs)
  unfolding middle
  each-middle xs z f = each_read (sort xs) ((length xs + 1) / 2 - 1) z (each-sort xs f)

  each-least : (x : ℤ) (ys : List ℤ) → Q x → Each ys → Q (least_of x ys)
  unfolding least_of
  each-least x [] q f = q
  each-least x (y ∷ ys) q f = each-least (min_z x y) ys (if-ind (lt_z y x) y x Q (λ t. f y (inl refl)) (λ t. q)) (λ z m. f z (inr m))

  each_or : (other : ℤ) (ys : List ℤ) → Q other → Each ys → Q (least_or other ys)
  each_or other [] q f = q
  each_or other (x ∷ ys) q f = each-least x ys (f x (inl refl)) (λ z m. f z (inr m))

-- ---- before class c is shifted every position is within ±m, and those of classes from c on are where they were placed
pub record Bounded (p : PlanData) (cs : List ℕ) (c m : ℕ) (xs : List ℤ) : Type 0 where
  pub long : length xs ≡ vertex_count p
  pub right : (v : ℕ) → v < vertex_count p → P (place_at xs v) ≤ m
  pub left : (v : ℕ) → v < vertex_count p → N (place_at xs v) ≤ m
  pub unmoved : (v : ℕ) → v < vertex_count p → c ≤ class_at cs v → (P (place_at xs v) ≤ 512000) × (N (place_at xs v) ≡ 0)

-- a shift of at most m to the right and m + 512,500 to the left
record Step (m : ℕ) (d : ℤ) : Type 0 where
  pub right : P d ≤ m
  pub left : N d ≤ m + 512500

module _ (p : PlanData) (S : Sound p) (ss : List Siblings) (cs : List ℕ) (long : length cs ≡ vertex_count p)
    (inside : (s : Siblings) → Mem s ss → (s.left < vertex_count p) × (s.right < vertex_count p)) where
  module _ (c m : ℕ) (xs : List ℤ) (B : Bounded p cs c m xs) where
    offset_step : (v w : ℕ) → v < vertex_count p → w < vertex_count p → class_at cs v ≡ c → Step m (place_at xs w -ℤ place_at xs v)
    offset_step v w h k e = let u = B.unmoved v h (omega arith) in let d = dif (place_at xs w) (place_at xs v) in
        record { right = omega (arith, B.right w k); left = omega (arith, B.left w k) }

    gap_step : (v w : ℕ) → v < vertex_count p → w < vertex_count p → class_at cs v ≡ c → Step m ((place_at xs w -ℤ place_at xs v) -ℤ pos (distance p v w))
    gap_step v w h k e = let u = B.unmoved v h (omega arith) in let d = dif (place_at xs w) (place_at xs v) in
        let d' = dif (place_at xs w -ℤ place_at xs v) (pos (distance p v w)) in let t = distance_high p S.limits v w in
        record { right = omega (arith, B.right w k); left = omega (arith, B.left w k) }

    gaps-step : (ts : List Siblings) → ((s : Siblings) → Mem s ts → Mem s ss) → Each (Step m) (gaps_in p cs xs c ts)
    unfolding gaps_in
    gaps-step [] f = λ y n. absurd n
    gaps-step (t ∷ ts) f =
        let more = gaps-step ts (λ s n. f s (inr n)) in
        if-ind (eqb (class_at cs t.left) c && not (eqb (class_at cs t.right) c))
        (((place_at xs t.right -ℤ place_at xs t.left) -ℤ pos (distance p t.left t.right)) ∷ gaps_in p cs xs c ts) (gaps_in p cs xs c ts) (Each (Step m))
        (λ k. each-cons (Step m) ((place_at xs t.right -ℤ place_at xs t.left) -ℤ pos (distance p t.left t.right)) (gaps_in p cs xs c ts)
        (gap_step t.left t.right (inside t (f t (inl refl))).0 (inside t (f t (inl refl))).1
        (eqb-true (class_at cs t.left) c (and_left (eqb (class_at cs t.left) c) (not (eqb (class_at cs t.right) c)) k))) more)
        (λ k. more)

    offsets-step : (gs : List Segment) → ((s : Segment) → Mem s gs → (s.upper < vertex_count p) × (s.lower < vertex_count p)) → Each (Step m) (offsets_in cs xs c gs)
    unfolding offsets_in
    offsets-step [] f = λ y n. absurd n
    offsets-step (g ∷ gs) f =
        let a = g.upper in let b = g.lower in
        let i = f g (inl refl) in
        let more = offsets-step gs (λ s n. f s (inr n)) in
        let down = place_at xs b -ℤ place_at xs a in let up = place_at xs a -ℤ place_at xs b in
        if-ind (eqb (class_at cs a) c && ltb (class_at cs b) c) (down ∷ offsets_in cs xs c gs)
        (cond (eqb (class_at cs b) c && ltb (class_at cs a) c) (up ∷ offsets_in cs xs c gs) (offsets_in cs xs c gs)) (Each (Step m))
        (λ k. each-cons (Step m) down (offsets_in cs xs c gs) (offset_step a b i.0 i.1 (eqb-true (class_at cs a) c (and_left (eqb (class_at cs a) c) (ltb (class_at cs b) c) k))) more)
        (λ j. if-ind (eqb (class_at cs b) c && ltb (class_at cs a) c) (up ∷ offsets_in cs xs c gs) (offsets_in cs xs c gs) (Each (Step m))
        (λ k. each-cons (Step m) up (offsets_in cs xs c gs) (offset_step b a i.1 i.0 (eqb-true (class_at cs b) c (and_left (eqb (class_at cs b) c) (ltb (class_at cs a) c) k))) more)
        (λ k. more))

    shift-step : Step m (shift_of p ss cs c xs)
    unfolding shift_of
    shift-step = each_or (Step m) (middle (offsets_in cs xs c (segments_of p))) (gaps_in p cs xs c ss)
        (each-middle (Step m) (offsets_in cs xs c (segments_of p)) (record { right = omega arith; left = omega arith })
        (offsets-step (segments_of p) (λ s n. ((S.down s n).upper_in, (S.down s n).lower_in))))
        (gaps-step ss (λ s n. n))

    bounded-step : Bounded p cs (suc c) (m + 512500) (moved c (shift_of p ss cs c xs) cs xs)
    bounded-step = record {
      long = moved-long c d cs xs e ∙ B.long;
      right = λ v h. alike (class_at cs v) c (λ q. rw (goes v h q) (omega (arith, B.unmoved v h (omega arith), sum (place_at xs v) d, shift-step))) (λ q. rw (stays v h q) (omega (arith, B.right v h)));
      left = λ v h. alike (class_at cs v) c (λ q. rw (goes v h q) (omega (arith, B.unmoved v h (omega arith), sum (place_at xs v) d, shift-step))) (λ q. rw (stays v h q) (omega (arith, B.left v h)));
      unmoved = λ v h k. rw (stays v h (λ q. omega arith)) (B.unmoved v h (omega arith));
    }
      where
        d : ℤ
        d = shift_of p ss cs c xs

        e : length cs ≡ length xs
        e = long ∙ sym B.long

        goes : (v : ℕ) → v < vertex_count p → class_at cs v ≡ c → place_at (moved c d cs xs) v ≡ place_at xs v +ℤ d
        goes v h q = moved_in c d cs xs v e (omega (arith, B.long)) q

        stays : (v : ℕ) → v < vertex_count p → (class_at cs v ≡ c → ⊥) → place_at (moved c d cs xs) v ≡ place_at xs v
        stays v h q = moved_out c d cs xs v e (omega (arith, B.long)) q

  pub bounded-all : (c k m : ℕ) (xs : List ℤ) → Bounded p cs c m xs → Bounded p cs (c + k) (m + k * 512500) (shift_each p ss cs (numbers c k) xs)
  unfolding numbers shift_each
  bounded-all c zero m xs B = let e : c + 0 ≡ c = omega arith in let e' : m + 0 * 512500 ≡ m = omega arith in rw (e, e') B
  bounded-all c (suc k) m xs B =
      let e : c + suc k ≡ c + 1 + k = omega arith in let e' : c + 1 ≡ suc c = omega arith in let e'' : m + suc k * 512500 ≡ m + 512500 + k * 512500 = omega arith in
      rw (e, e'') (bounded-all (c + 1) k (m + 512500) (moved c (shift_of p ss cs c xs) cs xs) (rw e' (bounded-step c m xs B)))
