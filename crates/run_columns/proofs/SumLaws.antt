-- Ratings as sums so far: parts of them, and the ratings of the first n neighbours as one difference. Assumes nothing.
use mathlib.Core.Path.{◌≡◌, refl, ◌∙◌, ap}
use mathlib.Core.Bool.{true}
use mathlib.Core.List.{List, [], ◌∷◌}
use Prim.Native.Nat.{ℕ, zero, suc, ◌+◌, ◌-◌, ◌*◌, ◌≤◌, ◌<◌}
use native.Mathlib.Omega.{arith}
use lib.ListN.{length, take, drop, get_or, length-take, length-drop}
use lib.Seq.{take_all, drop-nil}
use lib.IntN.{ℤ}
use Rattle.ints.specs.Lists.{sum}
use Rattle.ints.specs.Ratings.{max_rating, is_rating, all_ratings}
use Rattle.ints.proofs.Ratings.{rating-least, rating-most, ratings-take, ratings-drop}
use Rattle.ints.proofs.Tests.{and_left, and_right}
use Rattle.run.specs.Run.{free, leads_of, total_rating, nondecreasing}
use Rattle.run.specs.inner.Coordinates.{count_up_to, rated_up_to}
use Rattle.run.proofs.Sorted.{sorted}
use Rattle.run.proofs.Leads.{lead-positions, total-leads, leads-take}
use Rattle.run.proofs.Rated.{rated-is}
use Rattle.run_columns.specs.inner.Sums.{ratings_between, SumsOf}

-- ---- parts
pub length-between : (ss : List ℕ) → length (ratings_between ss) ≡ length ss - 1
unfolding ratings_between
length-between [] = refl
length-between (s ∷ []) = refl
length-between (s ∷ t ∷ ss) = omega (arith, length-between (t ∷ ss))

take-between : (n : ℕ) (ss : List ℕ) → ratings_between (take (suc n) ss) ≡ take n (ratings_between ss)
unfolding ratings_between
take-between zero [] = refl
take-between zero (s ∷ []) = refl
take-between zero (s ∷ t ∷ ss) = refl
take-between (suc n) [] = refl
take-between (suc n) (s ∷ []) = refl
take-between (suc n) (s ∷ t ∷ ss) = ap (λ (ws : List ℕ). (t - s) ∷ ws) (take-between n (t ∷ ss))

pub between-take : (n : ℕ) (ss : List ℕ) → ratings_between (take (n + 1) ss) ≡ take n (ratings_between ss)
between-take n ss = let e : n + 1 ≡ suc n = omega arith in ap (λ (k : ℕ). ratings_between (take k ss)) e ∙ take-between n ss

pub between-drop : (n : ℕ) (ss : List ℕ) → ratings_between (drop n ss) ≡ drop n (ratings_between ss)
unfolding ratings_between
between-drop zero ss = refl
between-drop (suc n) [] = refl
between-drop (suc n) (s ∷ []) = ap ratings_between (drop-nil n)
between-drop (suc n) (s ∷ t ∷ ss) = between-drop n (t ∷ ss)

pub sums-take : (n : ℕ) {ss : List ℕ} {ns : List ℤ} → n ≤ length ns → SumsOf ss ns → SumsOf (take (n + 1) ss) (take n ns)
sums-take n {ss} {ns} h q = record {
  long = omega (arith, length-take (n + 1) ss, length-take n ns, q.long);
  few = omega (arith, length-take n ns, q.few);
  rated = rw (between-take n ss) (ratings-take n (ratings_between ss) q.rated);
}

pub sums-drop : (n : ℕ) {ss : List ℕ} {ns : List ℤ} → n ≤ length ns → SumsOf ss ns → SumsOf (drop n ss) (drop n ns)
sums-drop n {ss} {ns} h q = record {
  long = omega (arith, length-drop n ss, length-drop n ns, q.long);
  few = omega (arith, length-drop n ns, q.few);
  rated = rw (between-drop n ss) (ratings-drop n (ratings_between ss) q.rated);
}

-- ---- the ratings of the first n are one difference
pub between-sum : (n : ℕ) (ss : List ℕ) → all_ratings (ratings_between ss) ≡ true → n < length ss → get_or ss 0 0 + sum (take n (ratings_between ss)) ≡ get_or ss n 0
unfolding ratings_between all_ratings sum
between-sum n [] e h = absurd (omega arith)
between-sum zero (s ∷ ss) e h = omega arith
between-sum (suc n) (s ∷ []) e h = absurd (omega arith)
between-sum (suc n) (s ∷ t ∷ ss) e h =
    omega (arith, rating-least (t - s) (and_left _ _ e), between-sum n (t ∷ ss) (and_right (is_rating (t - s)) _ e) (omega arith))

module _ {ss : List ℕ} {ns : List ℤ} (q : SumsOf ss ns) where
  pub as_many : length (ratings_between ss) ≡ length ns
  as_many = omega (arith, length-between ss, q.long)

  pub first-ratings : (n : ℕ) → n ≤ length ns → get_or ss 0 0 + sum (take n (ratings_between ss)) ≡ get_or ss n 0
  first-ratings n h = between-sum n ss q.rated (omega (arith, q.long))

  pub all-ratings : get_or ss 0 0 + sum (ratings_between ss) ≡ get_or ss (length ns) 0
  all-ratings = rw (take_all (length ns) (ratings_between ss) (omega (arith, as_many))) at (first-ratings (length ns) (omega arith))

-- ---- of leads
pub total-most : (xs : List ℤ) (ws : List ℕ) → all_ratings ws ≡ true → total_rating (leads_of xs ws) ≤ max_rating * length xs
unfolding leads_of total_rating all_ratings
total-most [] ws e = omega arith
total-most (x ∷ xs) [] e = omega arith
total-most (x ∷ xs) (w ∷ ws) e = omega (arith, rating-most w (and_left _ _ e), total-most xs ws (and_right (is_rating w) _ e))

-- the ratings of those at most m, if they are the first n
pub rated-first : (m : ℤ) (xs : List ℤ) (ws : List ℕ) (n : ℕ) → nondecreasing xs ≡ true → length xs ≡ length ws → count_up_to m xs ≡ n → rated_up_to m (leads_of xs ws) ≡ sum (take n ws)
rated-first m xs ws n s e k = let p = lead-positions xs ws (omega arith) in
    rated-is {lo = free} m (leads_of xs ws) (rw p (sorted xs s)) ∙ rw (p, k, leads-take n xs ws)
    (total-leads (take n xs) (take n ws) (omega (arith, length-take n xs, length-take n ws)))
