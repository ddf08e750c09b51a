-- A box's two middle neighbours by their index, as sums of ratings so far tell it. Assumes nothing.
use mathlib.Core.Path.{◌≡◌, ◌∙◌, ap}
use mathlib.Core.Bool.{true}
use mathlib.Core.List.{List, [], ◌∷◌}
use Prim.Native.Nat.{ℕ, zero, suc, ◌+◌, ◌-◌, ◌*◌, ◌≤◌, ◌<◌, ◌/◌}
use native.Mathlib.Omega.{arith}
use lib.ListN.{length, take, drop, get_or, length-take, length-drop}
use lib.Seq.{take_all}
use lib.IntN.{ℤ, pos, ◌+ℤ◌}
use Rattle.ints.specs.Lists.{sum}
use Rattle.ints.specs.Ratings.{max_rating, is_rating, all_ratings}
use Rattle.ints.proofs.Laws.{cases}
use Rattle.ints.proofs.Lists.{get_or-either}
use Rattle.ints.proofs.Ratings.{rating-least, rating-most, ratings-take, ratings-drop}
use Rattle.ints.proofs.Tests.{and_left, and_right}
use Rattle.run.specs.Run.{leads_of, total_rating, first_reaching, half_down, start_of}
use Rattle.run.specs.Call.{max_neighbours}
use Rattle.run.proofs.Leads.{lead-positions, length-leads, total-leads, leads-take}
use Rattle.run.proofs.Rated.{reaching-at}
use Rattle.run_columns.specs.inner.Sums.{ratings_between, SumsOf}
use Rattle.run_columns.proofs.ColumnLaws.{sum-cut}
use Rattle.run_columns.proofs.SumLaws.{length-between, between-sum, as_many, first-ratings, all-ratings}
use Rattle.run_halves.specs.inner.Middles.{Reaches, total_of, AreMiddles}

-- ---- how great sums of ratings are
pub sum-least : (ws : List ℕ) → all_ratings ws ≡ true → length ws ≤ sum ws
unfolding all_ratings sum
sum-least [] e = omega arith
sum-least (w ∷ ws) e = omega (arith, rating-least w (and_left _ _ e), sum-least ws (and_right (is_rating w) _ e))

pub sum-most : (ws : List ℕ) → all_ratings ws ≡ true → sum ws ≤ max_rating * length ws
unfolding all_ratings sum
sum-most [] e = omega arith
sum-most (w ∷ ws) e = omega (arith, rating-most w (and_left _ _ e), sum-most ws (and_right (is_rating w) _ e))

-- a sum so far is not below the first, and not far above it
pub sum_near : (n : ℕ) (ss : List ℕ) → all_ratings (ratings_between ss) ≡ true → length ss ≤ max_neighbours + 1 → n < length ss
    → (get_or ss 0 0 ≤ get_or ss n 0) × (get_or ss n 0 ≤ get_or ss 0 0 + max_rating * max_neighbours)
sum_near n ss e l h = let ws = ratings_between ss in let q = between-sum n ss e h in
    (omega arith, omega (arith, sum-most (take n ws) (ratings-take n ws e), length-take n ws, length-between ss))

-- each is more than the one before
rises_next : (i : ℕ) (ss : List ℕ) → all_ratings (ratings_between ss) ≡ true → suc i < length ss → get_or ss i 0 < get_or ss (suc i) 0
unfolding ratings_between all_ratings
rises_next i [] e h = absurd (omega arith)
rises_next i (s ∷ []) e h = absurd (omega arith)
rises_next zero (s ∷ t ∷ ss) e h = omega (arith, rating-least (t - s) (and_left _ _ e))
rises_next (suc i) (s ∷ t ∷ ss) e h = rises_next i (t ∷ ss) (and_right (is_rating (t - s)) _ e) (omega arith)

rises : (i : ℕ) (ss : List ℕ) → all_ratings (ratings_between ss) ≡ true → i + 1 < length ss → get_or ss i 0 < get_or ss (i + 1) 0
rises i ss e h = let k : i + 1 ≡ suc i = omega arith in omega (arith, rises_next i ss e (omega arith), ap (λ (j : ℕ). get_or ss j 0) k)

-- so where twice the ratings so far just reach t, they exceed it at the next
pub next-exceeds : (t i : ℕ) (ss : List ℕ) → all_ratings (ratings_between ss) ≡ true → length ss ≤ max_neighbours + 1 → Reaches t ss i
    → t + 1 ≤ 2 * total_of ss → 2 * (get_or ss (i + 1) 0 - get_or ss 0 0) ≡ t → Reaches (t + 1) ss (i + 1)
next-exceeds t i ss e l r m k = let w = r.within in
    let h : i + 1 + 1 < length ss = cases (length ss) (i + 1 + 1) (λ g. let f : length ss - 1 ≡ i + 1 = omega arith in absurd (omega (arith, ap (λ (j : ℕ). get_or ss j 0) f))) (λ g. g) in
    record { within = h; before = omega arith; reached = omega (arith, rises (i + 1) ss e h, (sum_near (i + 1) ss e l w).0) }

-- ---- the total
pub total-some : (ss : List ℕ) → all_ratings (ratings_between ss) ≡ true → 1 < length ss → get_or ss 0 0 < get_or ss (length ss - 1) 0
total-some ss e h = let ws = ratings_between ss in let n = length ss - 1 in let l = length-between ss in
    omega (arith, between-sum n ss e (omega arith), sum-least (take n ws) (ratings-take n ws e), length-take n ws)

-- twice the total is more than it
pub total-reached : (ss : List ℕ) → all_ratings (ratings_between ss) ≡ true → 1 < length ss → total_of ss + 1 ≤ 2 * total_of ss
total-reached ss e h = omega (arith, total-some ss e h)

-- if it is the number of neighbours, all ratings are 1
module _ (ss : List ℕ) (e : all_ratings (ratings_between ss) ≡ true) (h : 1 < length ss) (t : total_of ss ≡ length ss - 1) where
  ones : (i : ℕ) → i < length ss → get_or ss i 0 ≡ get_or ss 0 0 + i
  ones i k = let ws = ratings_between ss in let n = length ss - 1 in let l = length-between ss in
      let a = between-sum i ss e k in let b = between-sum n ss e (omega arith) in let all = ap sum (take_all n ws (omega arith)) in
      omega (arith, sum-cut i ws, sum-least (take i ws) (ratings-take i ws e), sum-least (drop i ws) (ratings-drop i ws e), length-take i ws, length-drop i ws)

  pub middles-of-ones : AreMiddles ss ((length ss - 1 - 1) / 2) ((length ss - 1) / 2)
  middles-of-ones = let n = length ss - 1 in let i = (n - 1) / 2 in let j = n / 2 in record {
    lower = record { within = omega arith; before = omega (arith, ones i (omega arith)); reached = omega (arith, ones (i + 1) (omega arith)) };
    upper = record { within = omega arith; before = omega (arith, ones j (omega arith)); reached = omega (arith, ones (j + 1) (omega arith)) };
  }

-- ---- of a box
module _ {ss : List ℕ} {ns : List ℤ} (q : SumsOf ss ns) where
  abbrev ws : List ℕ
  ws = ratings_between ss

  total-is : total_rating (leads_of ns ws) ≡ total_of ss
  total-is = let e : length ss - 1 ≡ length ns = omega (arith, q.long) in
      omega (arith, total-leads ns ws (omega (arith, as_many q)), all-ratings q, ap (λ (k : ℕ). get_or ss k 0) e)

  so_far : (i : ℕ) → i ≤ length ns → get_or ss 0 0 + total_rating (take i (leads_of ns ws)) ≡ get_or ss i 0
  so_far i h = rw (leads-take i ns ws, total-leads (take i ns) (take i ws) (omega (arith, length-take i ns, length-take i ws, as_many q))) (first-ratings q i h)

  middle : (t i : ℕ) (old : ℤ) → Reaches t ss i → first_reaching t 0 old (leads_of ns ws) ≡ get_or ns i (pos 0)
  middle t i old r = let h : i < length ns = omega (arith, r.within, q.long) in let e : i + 1 ≡ suc i = omega arith in
      reaching-at t 0 old (leads_of ns ws) i (omega (arith, length-leads ns ws (omega (arith, as_many q))))
      (omega (arith, r.before, so_far i (omega arith))) (omega (arith, r.reached, ap (λ (k : ℕ). get_or ss k 0) e, so_far (suc i) (omega arith)))
      ∙ ap (λ (xs : List ℤ). get_or xs i old) (lead-positions ns ws (omega (arith, as_many q))) ∙ get_or-either ns i old (pos 0) h

  pub start_between : (old : ℤ) (i j : ℕ) → AreMiddles ss i j → half_down (get_or ns i (pos 0) +ℤ get_or ns j (pos 0)) ≡ start_of old (leads_of ns ws)
  unfolding start_of
  start_between old i j m = rw (total-is, middle (total_of ss) i old m.lower, middle (total_of ss + 1) j old m.upper)
