-- Shifting classes: strands stay together, and siblings of two classes keep their distance from the moment the left one's
-- class is shifted: the right one's class is lower, so it stands already. Assumes nothing.
use mathlib.Core.Path.{◌≡◌, refl, sym, ◌∙◌, ap}
use mathlib.Core.Logic.{inl, inr}
use mathlib.Core.Bool.{cond, not, ◌&&◌}
use mathlib.Core.List.{List, [], ◌∷◌}
use Prim.Native.Nat.{ℕ, zero, suc, ◌+◌, ◌≤◌, ◌<◌}
use native.Mathlib.Omega.{arith}
use lib.Dec.{eqb}
use lib.ListN.{length}
use lib.IntN.{ℤ, pos, ◌+ℤ◌, ◌-ℤ◌}
use lib.Signed.{lt_z}
use borrow.Author.Tests.{eq-eqb, ne_eqb}
use Rattle.ints.specs.Ints.{P, N, ◌⊑◌, min_z}
use Rattle.ints.proofs.Laws.{sum, dif, if-ind, cases, lt-true, lt-false}
use Rattle.plan.specs.Plan.{PlanData, vertex_count, distance, Siblings, numbers}
use Rattle.plan.specs.Segments.{segments_of}
use Rattle.ints.specs.inner.Members.{Mem}
use Rattle.preliminary.specs.Shift.{class_at, place_at, gaps_in, offsets_in, middle, least_of, least_or, shift_of, moved, shift_each}
use Rattle.preliminary.proofs.Strands.{top_of}
use Rattle.preliminary.proofs.Give.{alike}

-- y stands at least d right of x
abbrev pub Clear : ℤ → ℤ → ℕ → Type 0
Clear x y d = P x + N y + d ≤ P y + N x

-- ---- one class moves
pub moved-long : (c : ℕ) (d : ℤ) (cs : List ℕ) (xs : List ℤ) → length cs ≡ length xs → length (moved c d cs xs) ≡ length xs
unfolding moved
moved-long c d [] xs e = omega arith
moved-long c d (k ∷ ks) [] e = refl
moved-long c d (k ∷ ks) (x ∷ xs) e = ap suc (moved-long c d ks xs (omega arith))

moved_at : (c : ℕ) (d : ℤ) (cs : List ℕ) (xs : List ℤ) (v : ℕ) → length cs ≡ length xs → v < length xs
    → place_at (moved c d cs xs) v ≡ cond (eqb (class_at cs v) c) (place_at xs v +ℤ d) (place_at xs v)
unfolding moved
moved_at c d [] xs v e h = absurd (omega arith)
moved_at c d (k ∷ ks) [] v e h = absurd (omega arith)
moved_at c d (k ∷ ks) (x ∷ xs) zero e h = refl
moved_at c d (k ∷ ks) (x ∷ xs) (suc v) e h = moved_at c d ks xs v (omega arith) (omega arith)

pub moved_in : (c : ℕ) (d : ℤ) (cs : List ℕ) (xs : List ℤ) (v : ℕ) → length cs ≡ length xs → v < length xs → class_at cs v ≡ c → place_at (moved c d cs xs) v ≡ place_at xs v +ℤ d
moved_in c d cs xs v e h q = moved_at c d cs xs v e h ∙ rw (eq-eqb (class_at cs v) c q)

pub moved_out : (c : ℕ) (d : ℤ) (cs : List ℕ) (xs : List ℤ) (v : ℕ) → length cs ≡ length xs → v < length xs → (class_at cs v ≡ c → ⊥) → place_at (moved c d cs xs) v ≡ place_at xs v
moved_out c d cs xs v e h q = moved_at c d cs xs v e h ∙ rw (ne_eqb (class_at cs v) c q)

-- ---- the least of a list
least_first : (x : ℤ) (ys : List ℤ) → least_of x ys ⊑ x
unfolding least_of
least_first x [] = omega arith
least_first x (y ∷ ys) = let h = least_first (min_z x y) ys in
    if-ind (lt_z y x) y x (λ z. least_of z ys ⊑ z → least_of z ys ⊑ x) (λ t k. omega (arith, lt-true y x t)) (λ t k. k) h

least-in : (x : ℤ) (ys : List ℤ) (y : ℤ) → Mem y ys → least_of x ys ⊑ y
unfolding least_of
least-in x [] y m = absurd m
least-in x (z ∷ ys) y (inl e) = let h = least_first (min_z x z) ys in
    rw e (if-ind (lt_z z x) z x (λ w. least_of w ys ⊑ w → least_of w ys ⊑ z) (λ t k. k) (λ t k. omega (arith, lt-false z x t)) h)
least-in x (z ∷ ys) y (inr m) = least-in (min_z x z) ys y m

least-or : (other : ℤ) (ys : List ℤ) (y : ℤ) → Mem y ys → least_or other ys ⊑ y
least-or other [] y m = absurd m
least-or other (x ∷ ys) y (inl e) = rw e (least_first x ys)
least-or other (x ∷ ys) y (inr m) = least-in x ys y m

abbrev gap_of : PlanData → List ℤ → Siblings → ℤ
gap_of p xs s = (place_at xs s.right -ℤ place_at xs s.left) -ℤ pos (distance p s.left s.right)

gap-in : (p : PlanData) (cs : List ℕ) (xs : List ℤ) (c : ℕ) (ss : List Siblings) (s : Siblings) → Mem s ss → class_at cs s.left ≡ c → (class_at cs s.right ≡ c → ⊥) → Mem (gap_of p xs s) (gaps_in p cs xs c ss)
unfolding gaps_in
gap-in p cs xs c [] s m e f = absurd m
gap-in p cs xs c (t ∷ ss) s (inl q) e f =
    let a : class_at cs t.left ≡ c = ap (λ (x : Siblings). class_at cs x.left) (sym q) ∙ e in
    let b : class_at cs t.right ≡ c → ⊥ = λ k. f (ap (λ (x : Siblings). class_at cs x.right) q ∙ k) in
    rw (eq-eqb (class_at cs t.left) c a, ne_eqb (class_at cs t.right) c b) (inl (ap (gap_of p xs) q))
gap-in p cs xs c (t ∷ ss) s (inr m) e f =
    if-ind (eqb (class_at cs t.left) c && not (eqb (class_at cs t.right) c)) (gap_of p xs t ∷ gaps_in p cs xs c ss) (gaps_in p cs xs c ss) (λ l. Mem (gap_of p xs s) l)
    (λ k. inr (gap-in p cs xs c ss s m e f)) (λ k. gap-in p cs xs c ss s m e f)

shift_le : (p : PlanData) (ss : List Siblings) (cs : List ℕ) (xs : List ℤ) (c : ℕ) (s : Siblings) → Mem s ss → class_at cs s.left ≡ c → (class_at cs s.right ≡ c → ⊥) → shift_of p ss cs c xs ⊑ gap_of p xs s
unfolding shift_of
shift_le p ss cs xs c s m e f = least-or (middle (offsets_in cs xs c (segments_of p))) (gaps_in p cs xs c ss) (gap_of p xs s) (gap-in p cs xs c ss s m e f)

-- ---- before class c is shifted
pub record Spaced (p : PlanData) (ss : List Siblings) (cs : List ℕ) (c : ℕ) (xs : List ℤ) : Type 0 where
  pub long : length xs ≡ vertex_count p
  pub strands : (v w : ℕ) → v < vertex_count p → w < vertex_count p → top_of p v ≡ top_of p w → place_at xs v ≡ place_at xs w
  pub same : (s : Siblings) → Mem s ss → class_at cs s.left ≡ class_at cs s.right → Clear (place_at xs s.left) (place_at xs s.right) (distance p s.left s.right)
  pub apart : (s : Siblings) → Mem s ss → class_at cs s.left < c → Clear (place_at xs s.left) (place_at xs s.right) (distance p s.left s.right)

module _ (p : PlanData) (ss : List Siblings) (cs : List ℕ) (long : length cs ≡ vertex_count p)
    (strands : (v w : ℕ) → v < vertex_count p → w < vertex_count p → top_of p v ≡ top_of p w → class_at cs v ≡ class_at cs w)
    (inside : (s : Siblings) → Mem s ss → (s.left < vertex_count p) × (s.right < vertex_count p))
    (falls : (s : Siblings) → Mem s ss → class_at cs s.right ≤ class_at cs s.left) where
  spaced-step : (c : ℕ) (xs : List ℤ) → Spaced p ss cs c xs → Spaced p ss cs (suc c) (moved c (shift_of p ss cs c xs) cs xs)
  spaced-step c xs I = record {
    long = moved-long c d cs xs e ∙ I.long;
    strands = λ v w h k t. alike (class_at cs v) c (λ q. goes v h q ∙ ap (λ (z : ℤ). z +ℤ d) (I.strands v w h k t) ∙ sym (goes w k (sym (strands v w h k t) ∙ q)))
        (λ q. stays v h q ∙ I.strands v w h k t ∙ sym (stays w k (λ r. q (strands v w h k t ∙ r))));
    same = same';
    apart = λ s m h. let a = s.left in let b = s.right in let l = (inside s m).0 in let r = (inside s m).1 in
        alike (class_at cs a) c
        (λ q. alike (class_at cs b) c (λ q'. same' s m (q ∙ sym q'))
        (λ q'. rw (goes a l q, stays b r q') (omega (arith, shift_le p ss cs xs c s m q q', sum (place_at xs a) d, dif (place_at xs b) (place_at xs a), dif (place_at xs b -ℤ place_at xs a) (pos (distance p a b))))))
        (λ q. rw (stays a l q, stays b r (λ q'. q (omega (arith, falls s m)))) (I.apart s m (less (class_at cs a) h q)));
  }
    where
      d : ℤ
      d = shift_of p ss cs c xs

      e : length cs ≡ length xs
      e = long ∙ sym I.long

      goes : (v : ℕ) → v < vertex_count p → class_at cs v ≡ c → place_at (moved c d cs xs) v ≡ place_at xs v +ℤ d
      goes v h q = moved_in c d cs xs v e (omega (arith, I.long)) q

      stays : (v : ℕ) → v < vertex_count p → (class_at cs v ≡ c → ⊥) → place_at (moved c d cs xs) v ≡ place_at xs v
      stays v h q = moved_out c d cs xs v e (omega (arith, I.long)) q

      less : (k : ℕ) → k < suc c → (k ≡ c → ⊥) → k < c
      less k h q = cases c k (λ j. absurd (q (omega arith))) (λ j. j)

      same' : (s : Siblings) → Mem s ss → class_at cs s.left ≡ class_at cs s.right → Clear (place_at (moved c d cs xs) s.left) (place_at (moved c d cs xs) s.right) (distance p s.left s.right)
      same' s m q = let a = s.left in let b = s.right in let l = (inside s m).0 in let r = (inside s m).1 in
          alike (class_at cs a) c
          (λ i. rw (goes a l i, goes b r (sym q ∙ i)) (omega (arith, I.same s m q, sum (place_at xs a) d, sum (place_at xs b) d)))
          (λ i. rw (stays a l i, stays b r (λ j. i (q ∙ j))) (I.same s m q))

  pub spaced-all : (c m : ℕ) (xs : List ℤ) → Spaced p ss cs c xs → Spaced p ss cs (c + m) (shift_each p ss cs (numbers c m) xs)
  unfolding numbers shift_each
  spaced-all c zero xs I = let e : c + 0 ≡ c = omega arith in rw e I
  spaced-all c (suc m) xs I =
      let e : c + suc m ≡ c + 1 + m = omega arith in let e' : c + 1 ≡ suc c = omega arith in
      rw e (spaced-all (c + 1) m (moved c (shift_of p ss cs c xs) cs xs) (rw e' (spaced-step c xs I)))
