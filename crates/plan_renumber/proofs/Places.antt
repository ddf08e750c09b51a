-- Laws of `place_in` and `inverse` of a list that has each number below n once. Assumes nothing.
use Prim.Native.Nat.{ℕ, zero, suc, ◌+◌, ◌<◌, ◌≤◌}
use mathlib.Core.Path.{◌≡◌, refl, sym, ◌∙◌, ap}
use mathlib.Core.List.{List, [], ◌∷◌, map}
use native.Mathlib.Nat.{zero-add}
use native.Mathlib.Omega.{arith}
use borrow.Author.Tests.{eq-eqb, ne_eqb}
use lib.ListN.{length, get_or, length-map}
use lib.Seq.{ext_get_or}
use Rattle.ints.proofs.Laws.{cases}
use Rattle.ints.proofs.Lists.{map-get_or}
use Rattle.plan.specs.Plan.{numbers}
use Rattle.ints.specs.Lists.{count_of}
use Rattle.plan.proofs.Levels.{length-numbers, get-numbers}
use Rattle.plan.proofs.CountLaws.{by-same, count_same, count-other, count_none}
use Rattle.plan_renumber.specs.Renumber.{place_in, inverse}
use Rattle.plan_renumber.specs.inner.Words.{Once}

-- ---- the place of a number
module _ (x : ℕ) (xs : List ℕ) (v : ℕ) where
  pub place_here : x ≡ v → place_in (x ∷ xs) v ≡ 0
  unfolding place_in
  place_here e = rw (eq-eqb x v e)

  pub place-next : (x ≡ v → ⊥) → place_in (x ∷ xs) v ≡ suc (place_in xs v)
  unfolding place_in
  place-next e = rw (ne_eqb x v e)

-- what is counted is there
pub place-below : (xs : List ℕ) (v : ℕ) → 1 ≤ count_of v xs → place_in xs v < length xs
place-below [] v h = absurd (omega (arith, count_none v))
place-below (x ∷ xs) v h = by-same x v
    (λ e. omega (arith, place_here x xs v e))
    (λ e. omega (arith, place-next x xs v e, place-below xs v (omega (arith, count-other v x xs e))))

pub at_place : (xs : List ℕ) (v : ℕ) → 1 ≤ count_of v xs → get_or xs (place_in xs v) 0 ≡ v
at_place [] v h = absurd (omega (arith, count_none v))
at_place (x ∷ xs) v h = by-same x v
    (λ e. rw (place_here x xs v e) e)
    (λ e. rw (place-next x xs v e) (at_place xs v (omega (arith, count-other v x xs e))))

-- what is there is counted
pub there-counts : (xs : List ℕ) (i : ℕ) → i < length xs → 1 ≤ count_of (get_or xs i 0) xs
there-counts [] i h = absurd (omega arith)
there-counts (x ∷ xs) zero h = omega (arith, count_same x x xs refl)
there-counts (x ∷ xs) (suc i) h = let v = get_or xs i 0 in by-same x v
    (λ e. omega (arith, count_same v x xs e))
    (λ e. omega (arith, count-other v x xs e, there-counts xs i (omega arith)))

-- what is counted once has one place
pub place_at : (xs : List ℕ) (i : ℕ) → i < length xs → count_of (get_or xs i 0) xs ≤ 1 → place_in xs (get_or xs i 0) ≡ i
place_at [] i h k = absurd (omega arith)
place_at (x ∷ xs) zero h k = place_here x xs x refl
place_at (x ∷ xs) (suc i) h k = let v = get_or xs i 0 in by-same x v
    (λ e. absurd (omega (arith, count_same v x xs e, there-counts xs i (omega arith))))
    (λ e. place-next x xs v e ∙ ap suc (place_at xs i (omega arith) (omega (arith, count-other v x xs e))))

-- ---- numbers
numbers-low : (a n v : ℕ) → v < a → count_of v (numbers a n) ≡ 0
unfolding numbers
numbers-low a zero v h = count_none v
numbers-low a (suc n) v h = count-other v a (numbers (a + 1) n) (λ e. omega arith) ∙ numbers-low (a + 1) n v (omega arith)

numbers-in : (a n v : ℕ) → a ≤ v → v < a + n → count_of v (numbers a n) ≡ 1
unfolding numbers
numbers-in a zero v h k = absurd (omega arith)
numbers-in a (suc n) v h k = by-same a v
    (λ e. count_same v a (numbers (a + 1) n) e ∙ ap suc (numbers-low (a + 1) n v (omega arith)))
    (λ e. count-other v a (numbers (a + 1) n) e ∙ numbers-in (a + 1) n v (cases v a (λ j. absurd (e (omega arith))) (λ j. omega arith)) (omega arith))

-- a list read at each of its places
pub map_at : {A : Type 0} (xs : List A) (d : A) (n : ℕ) → length xs ≡ n → map (λ i. get_or xs i d) (numbers 0 n) ≡ xs
map_at xs d n e =
    let long : length (map (λ i. get_or xs i d) (numbers 0 n)) ≡ n = length-map (numbers 0 n) (λ i. get_or xs i d) ∙ length-numbers 0 n in
    ext_get_or d (map (λ i. get_or xs i d) (numbers 0 n)) xs (long ∙ sym e)
    (λ i h. let k : i < n = omega arith in
    map-get_or (λ i. get_or xs i d) (numbers 0 n) i 0 d (omega (arith, length-numbers 0 n)) ∙ ap (λ (j : ℕ). get_or xs j d) (get-numbers 0 n i 0 k ∙ zero-add i))

-- ---- each number below n, once
pub numbers-once : (n : ℕ) → Once n (numbers 0 n)
numbers-once n = record {
  long = length-numbers 0 n;
  below = λ i h. omega (arith, get-numbers 0 n i 0 h);
  once = λ v h. numbers-in 0 n v (omega arith) (omega arith);
}

pub place-number : (n v : ℕ) → v < n → place_in (numbers 0 n) v ≡ v
place-number n v h =
    let e : get_or (numbers 0 n) v 0 ≡ v = get-numbers 0 n v 0 h ∙ zero-add v in
    rw e at (place_at (numbers 0 n) v (omega (arith, length-numbers 0 n)) (omega (arith, numbers-in 0 n (get_or (numbers 0 n) v 0) (omega arith) (omega arith))))

-- ---- the new number of a vertex, and the vertex with a new number
module _ (n : ℕ) (m : List ℕ) (o : Once n m) where
  pub new-below : (v : ℕ) → v < n → place_in m v < n
  new-below v h = omega (arith, place-below m v (omega (arith, o.once v h)), o.long)

  pub old-new : (v : ℕ) → v < n → get_or m (place_in m v) 0 ≡ v
  old-new v h = at_place m v (omega (arith, o.once v h))

  pub new-old : (i : ℕ) → i < n → place_in m (get_or m i 0) ≡ i
  new-old i h = place_at m i (omega (arith, o.long)) (omega (arith, o.once (get_or m i 0) (o.below i h)))

  pub new-same : (v w : ℕ) → v < n → w < n → place_in m v ≡ place_in m w → v ≡ w
  new-same v w h k e = sym (old-new v h) ∙ ap (λ (i : ℕ). get_or m i 0) e ∙ old-new w k

  -- ---- the inverse
  pub inverse-long : length (inverse m) ≡ n
  unfolding inverse
  inverse-long = length-map (numbers 0 (length m)) (place_in m) ∙ length-numbers 0 (length m) ∙ o.long

  pub inverse-at : (v : ℕ) → v < n → get_or (inverse m) v 0 ≡ place_in m v
  unfolding inverse
  inverse-at v h =
      map-get_or (place_in m) (numbers 0 (length m)) v 0 0 (omega (arith, length-numbers 0 (length m), o.long))
      ∙ ap (place_in m) (get-numbers 0 (length m) v 0 (omega (arith, o.long)) ∙ zero-add v)

  -- how often i is a new number, of the vertices from a on
  image-count : (i a k : ℕ) → i < n → a + k ≤ n → count_of i (map (place_in m) (numbers a k)) ≡ count_of (get_or m i 0) (numbers a k)
  unfolding numbers
  image-count i a zero h l = count_none i ∙ sym (count_none (get_or m i 0))
  image-count i a (suc k) h l =
      let more = image-count i (a + 1) k h (omega arith) in
      let xs = map (place_in m) (numbers (a + 1) k) in
      by-same a (get_or m i 0)
      (λ e. count_same i (place_in m a) xs (ap (place_in m) e ∙ new-old i h) ∙ ap suc more ∙ sym (count_same (get_or m i 0) a (numbers (a + 1) k) e))
      (λ e. count-other i (place_in m a) xs (λ q. e (sym (old-new a (omega arith)) ∙ ap (λ (j : ℕ). get_or m j 0) q)) ∙ more ∙ sym (count-other (get_or m i 0) a (numbers (a + 1) k) e))

  pub inverse-once : Once n (inverse m)
  unfolding inverse
  inverse-once = record {
    long = inverse-long;
    below = λ i h. rw (inverse-at i h) (new-below i h);
    once = λ v h. rw o.long (image-count v 0 n h (omega arith) ∙ numbers-in 0 n (get_or m v 0) (omega arith) (omega (arith, o.below v h)));
  }

  pub place-inverse : (i : ℕ) → i < n → place_in (inverse m) i ≡ get_or m i 0
  place-inverse i h =
      let v = get_or m i 0 in
      let k = o.below i h in
      let e : get_or (inverse m) v 0 ≡ i = inverse-at v k ∙ new-old i h in
      rw e at (place_at (inverse m) v (omega (arith, inverse-long)) (omega (arith, inverse-once.once (get_or (inverse m) v 0) (inverse-once.below v k))))

  pub inverse-new : (v : ℕ) → v < n → place_in (inverse m) (place_in m v) ≡ v
  inverse-new v h = place-inverse (place_in m v) (new-below v h) ∙ old-new v h
