-- Texts for 0, 1 .. one after another, as a loop writes them into a lent buffer; and walks of which a part gives nothing. Assumes nothing.
use mathlib.Core.Path.{◌≡◌, refl, ◌∙◌, ap}
use mathlib.Core.List.{List, [], ◌∷◌, ◌++◌, map, map-append, append-nil}
use Prim.Native.Nat.{ℕ, zero, suc, ◌+◌, ◌-◌, ◌*◌, ◌≤◌, ◌<◌}
use native.Mathlib.Omega.{arith}
use lib.ListN.{length, get_or, length-append}
use Rattle.ints.specs.Lists.{sum, concat}
use Rattle.ints.proofs.Lists.{concat-append, concat-one}
use Rattle.plan.specs.Plan.{numbers}
use Rattle.plan.proofs.LevelLaws.{numbers-append}
use Rattle.text_write.specs.inner.Written.{Room, Wrote}
use Rattle.text_write.proofs.Written.{wrote_none, wrote-long, and_then}
use Rattle.picture_marks.specs.inner.Listed.{walked}

module _ (f : ℕ → List ℕ) where
  -- those for k numbers from n on
  abbrev from : ℕ → ℕ → List ℕ
  from n k = concat (map f (numbers n k))

  pub from-append : (n a b : ℕ) → from n (a + b) ≡ from n a ++ from (n + a) b
  from-append n a b =
      ap (λ (l : List ℕ). concat (map f l)) (numbers-append n a b) ∙ ap concat (map-append f (numbers n a) (numbers (n + a) b))
      ∙ concat-append (map f (numbers n a)) (map f (numbers (n + a) b))

  one : (n : ℕ) → from n 1 ≡ f n
  unfolding numbers
  one n = concat-one (f n)

  -- one more
  pub walked_more : (n : ℕ) → walked f (n + 1) ≡ walked f n ++ f n
  walked_more n = let e : 0 + n ≡ n = omega arith in from-append 0 n 1 ∙ rw (e, one n)

  walked-length : (n m : ℕ) → n ≤ m → length (walked f n) ≤ length (walked f m)
  walked-length n m h =
      let e : m ≡ n + (m - n) = omega arith in
      omega (arith, ap length (ap (walked f) e ∙ from-append 0 n (m - n)), length-append (walked f n) (from (0 + n) (m - n)))

  -- ---- as a loop writes them
  pub walk_none : (o : List ℕ) (at : ℕ) → Wrote (walked f 0) o at at o
  unfolding numbers concat
  walk_none o at = wrote_none o at

  pub walk-room : {o out : List ℕ} {at to : ℕ} (n m : ℕ) → n < m → Room (walked f m) o at → Wrote (walked f n) o at to out → Room (f n) out to
  walk-room {o} {out} n m h r w =
      omega (arith, wrote-long w, w.next, walked-length (n + 1) m (omega arith), ap length (walked_more n), length-append (walked f n) (f n))

  pub walk_more : {o mid out : List ℕ} {at next to : ℕ} (n : ℕ) → Wrote (walked f n) o at next mid → Wrote (f n) mid next to out → Wrote (walked f (n + 1)) o at to out
  walk_more n w k = rw (walked_more n) (and_then w k)

  -- ---- a walk of which a part gives nothing
  from_empty : (n k : ℕ) → ((i : ℕ) → n ≤ i → i < n + k → f i ≡ []) → from n k ≡ []
  unfolding numbers concat
  from_empty n zero h = refl
  from_empty n (suc k) h = rw (h n (omega arith) (omega arith)) (from_empty (n + 1) k (λ i a b. h i (omega arith) (omega arith)))

  pub walked-first : (a b : ℕ) → ((i : ℕ) → a ≤ i → i < a + b → f i ≡ []) → walked f (a + b) ≡ walked f a
  walked-first a b h =
      let e : 0 + a ≡ a = omega arith in
      from-append 0 a b ∙ ap (λ (l : List ℕ). walked f a ++ l) (rw e (from_empty a b h)) ∙ append-nil (walked f a)

-- the same texts for other numbers
pub walk_same : (f g : ℕ → List ℕ) (a b k : ℕ) → ((i : ℕ) → i < k → f (a + i) ≡ g (b + i)) → concat (map f (numbers a k)) ≡ concat (map g (numbers b k))
unfolding numbers concat
walk_same f g a b zero h = refl
walk_same f g a b (suc k) h =
    let ea : a + 0 ≡ a = omega arith in let eb : b + 0 ≡ b = omega arith in
    let first : f a ≡ g b = rw (ea, eb) at (h 0 (omega arith)) in
    rw first (ap (λ (l : List ℕ). g b ++ l) (walk_same f g (a + 1) (b + 1) k (λ i l. shift i l)))
  where
    shift : (i : ℕ) → i < k → f (a + 1 + i) ≡ g (b + 1 + i)
    shift i l = let ea : a + 1 + i ≡ a + suc i = omega arith in let eb : b + 1 + i ≡ b + suc i = omega arith in rw (ea, eb) (h (suc i) (omega arith))

-- the first part gives nothing
pub walked-last : (f : ℕ → List ℕ) (a b : ℕ) → ((i : ℕ) → i < a → f i ≡ []) → walked f (a + b) ≡ concat (map f (numbers a b))
walked-last f a b h =
    let e : 0 + a ≡ a = omega arith in
    from-append f 0 a b ∙ rw (e, from_empty f 0 a (λ i l m. h i (omega arith)))

-- the walk is at its end
pub walked_all : (f : ℕ → List ℕ) {n m at to : ℕ} {o out : List ℕ} → n ≤ m → m ≤ n → Wrote (walked f n) o at to out → Wrote (walked f m) o at to out
walked_all f {n} {m} h k w = let e : n ≡ m = omega arith in rw e at w

-- ---- how long a walk is at most, where each text is at most so long; and where it is longer by ten times a name
times_more : (a b : ℕ) → a * suc b ≡ a * b + a
times_more a b = omega arith

pub walk-short : (f : ℕ → List ℕ) (m a k : ℕ) → ((i : ℕ) → i < k → length (f (a + i)) ≤ m) → length (concat (map f (numbers a k))) ≤ m * k
unfolding numbers concat
walk-short f m a zero h = omega arith
walk-short f m a (suc k) h =
    let z : a + 0 ≡ a = omega arith in
    let first : length (f a) ≤ m = rw z at (h 0 (omega arith)) in
    let rest = walk-short f m (a + 1) k (λ i l. let e : a + 1 + i ≡ a + suc i = omega arith in rw e (h (suc i) (omega arith))) in
    omega (arith, length-append (f a) (concat (map f (numbers (a + 1) k))), times_more m k)

pub walk-named : (f : ℕ → List ℕ) (m a : ℕ) (names : List (List ℕ)) → ((i : ℕ) → i < length names → length (f (a + i)) ≤ m + 10 * length (get_or names i []))
    → length (concat (map f (numbers a (length names)))) ≤ m * length names + 10 * sum (map length names)
unfolding numbers concat sum
walk-named f m a [] h = omega arith
walk-named f m a (name ∷ names) h =
    let z : a + 0 ≡ a = omega arith in
    let first : length (f a) ≤ m + 10 * length name = rw z at (h 0 (omega arith)) in
    let rest = walk-named f m (a + 1) names (λ i l. let e : a + 1 + i ≡ a + suc i = omega arith in rw e (h (suc i) (omega arith))) in
    omega (arith, length-append (f a) (concat (map f (numbers (a + 1) (length names)))), times_more m (length names))
