-- Laws of writing the levels and their siblings, as the loops meet them. Assumes nothing.
use Prim.Native.Nat.{ℕ, zero, suc, ◌+◌, ◌-◌, ◌<◌, ◌≤◌}
use mathlib.Core.Path.{◌≡◌, refl, sym, ◌∙◌, ap}
use mathlib.Core.Bool.{Bool, cond}
use mathlib.Core.List.{List, [], ◌∷◌}
use native.Mathlib.Omega.{arith}
use native.Mathlib.Numerals.{add-one}
use borrow.Author.Tests.{lt-ltb, le-ltb}
use lib.Dec.{ltb}
use lib.ListN.{length, get_or, set, take, drop, length-drop, length-reverse, drop_of_length-le}
use lib.Seq.{drop-cons, sets, get_or-take, get_or-drop, length-take-le}
use Rattle.std.proofs.lemmas.List.{get_or-reverse}
use Rattle.ints.proofs.Laws.{cases}
use Rattle.plan.specs.Plan.{numbers}
use Rattle.prelim_classes.specs.inner.Arranged.{followers, level_by, vertex_by}
use Rattle.prelim_classes.proofs.ChainLaws.{by-test}

-- ---- writing a list from a place on
pub sets-on : (l : List ℕ) (i i' k : ℕ) (vs : List ℕ) (x : ℕ) → k < length vs → i' ≡ i + 1 → x ≡ get_or vs k 0 → sets l i (drop k vs) ≡ sets (set l i x) i' (drop (k + 1) vs)
sets-on l i i' k vs x h e q =
    ap (sets l i) (drop-cons vs k 0 h)
    ∙ ap (λ (y : ℕ). sets (set l i y) (suc i) (drop (suc k) vs)) (sym q)
    ∙ ap (λ (n : ℕ). sets (set l i x) n (drop (suc k) vs)) (sym (e ∙ add-one i))
    ∙ ap (λ (n : ℕ). sets (set l i x) i' (drop n vs)) (sym (add-one k))

pub sets_end : (l : List ℕ) (i k : ℕ) (vs : List ℕ) → length vs ≤ k → sets l i (drop k vs) ≡ l
sets_end l i k vs h = ap (sets l i) (drop_of_length-le vs h)

-- ---- a level
pub numbers_long : (v n : ℕ) → length (numbers v n) ≡ n
unfolding numbers
numbers_long v zero = refl
numbers_long v (suc n) = ap suc (numbers_long (v + 1) n)

pub numbers-at : (v n j : ℕ) → j < n → get_or (numbers v n) j 0 ≡ v + j
unfolding numbers
numbers-at v zero j h = absurd (omega arith)
numbers-at v (suc n) zero h = omega arith
numbers-at v (suc n) (suc j) h = numbers-at (v + 1) n j (omega arith) ∙ omega arith

module _ (reversed : Bool) (v n : ℕ) where
  pub level-long : length (level_by reversed v n) ≡ n
  level-long = by-test reversed (λ e. rw e (length-reverse (numbers v n) ∙ numbers_long v n)) (λ e. rw e (numbers_long v n))

  pub level-at : (j : ℕ) → j < n → get_or (level_by reversed v n) j 0 ≡ vertex_by reversed v n j
  level-at j h = by-test reversed
      (λ e. rw e (get_or-reverse (numbers v n) j 0 (omega (arith, numbers_long v n)) ∙ ap (λ (m : ℕ). get_or (numbers v n) (m - 1 - j) 0) (numbers_long v n) ∙ numbers-at v n (n - 1 - j) (omega arith) ∙ omega arith))
      (λ e. rw e (numbers-at v n j h))

  pub level-below : (m : ℕ) → v + n ≤ m → (j : ℕ) → j < n → get_or (level_by reversed v n) j 0 < m
  level-below m k j h = by-test reversed
      (λ e. let q = rw e at (level-at j h) in rw e (omega arith))
      (λ e. let q = rw e at (level-at j h) in rw e (omega arith))

-- ---- followers
pub followers-long : (xs : List ℕ) → length (followers xs) ≡ length xs
unfolding followers
followers-long [] = refl
followers-long (x ∷ []) = refl
followers-long (x ∷ y ∷ xs) = ap suc (followers-long (y ∷ xs))

pub followers-at : (xs : List ℕ) (k : ℕ) → k < length xs → get_or (followers xs) k 0 ≡ cond (ltb (k + 1) (length xs)) (get_or xs (k + 1) 0) 2048
unfolding followers
followers-at [] k h = absurd (omega arith)
followers-at (x ∷ []) k h = let z : k ≡ 0 = omega arith in rw z
followers-at (x ∷ y ∷ xs) zero h = let q : 0 + 1 < length (x ∷ y ∷ xs) = omega arith in rw (lt-ltb (0 + 1) (length (x ∷ y ∷ xs)) q)
followers-at (x ∷ y ∷ xs) (suc k) h = followers-at (y ∷ xs) k (omega arith)
    ∙ cases (length (y ∷ xs)) (k + 1)
    (λ o. let o' : length (x ∷ y ∷ xs) ≤ suc k + 1 = omega arith in rw (le-ltb (k + 1) (length (y ∷ xs)) o, le-ltb (suc k + 1) (length (x ∷ y ∷ xs)) o'))
    (λ o. let o' : suc k + 1 < length (x ∷ y ∷ xs) = omega arith in let z : suc k + 1 ≡ suc (k + 1) = omega arith in
    rw (lt-ltb (k + 1) (length (y ∷ xs)) o, lt-ltb (suc k + 1) (length (x ∷ y ∷ xs)) o', z))

module _ (order : List ℕ) (from to : ℕ) (h : to ≤ length order) where
  pub part-long : length (take (to - from) (drop from order)) ≡ to - from
  part-long = length-take-le (to - from) (drop from order) (omega (arith, length-drop from order))

  pub part_at : (k : ℕ) → k < to - from → get_or (take (to - from) (drop from order)) k 0 ≡ get_or order (from + k) 0
  part_at k m = get_or-take (to - from) (drop from order) k 0 m ∙ get_or-drop from order k 0

  pub right_is : (i r : ℕ) → from ≤ i → i < to → r ≡ cond (ltb (i + 1) to) (get_or order (i + 1) 0) 2048 → r ≡ get_or (followers (take (to - from) (drop from order))) (i - from) 0
  right_is i r m n e = e ∙ cases to (i + 1)
      (λ o. let o' : length (take (to - from) (drop from order)) ≤ i - from + 1 = omega (arith, part-long) in
      rw (followers-at (take (to - from) (drop from order)) (i - from) (omega (arith, part-long)), le-ltb (i + 1) to o, le-ltb (i - from + 1) (length (take (to - from) (drop from order))) o'))
      (λ o. let o' : i - from + 1 < length (take (to - from) (drop from order)) = omega (arith, part-long) in
      let z : from + (i - from + 1) ≡ i + 1 = omega arith in
      rw (followers-at (take (to - from) (drop from order)) (i - from) (omega (arith, part-long)), lt-ltb (i + 1) to o, lt-ltb (i - from + 1) (length (take (to - from) (drop from order))) o', part_at (i - from + 1) (omega arith), z))
