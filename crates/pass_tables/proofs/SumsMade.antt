-- Sums so far of ratings that stand behind a first number 0: the ratings between them are those. Assumes nothing.
use Prim.Native.Nat.{ℕ, zero, suc, ◌+◌, ◌-◌, ◌*◌, ◌<◌, ◌≤◌}
use mathlib.Core.Path.{◌≡◌, refl, ◌∙◌, ap}
use mathlib.Core.Bool.{true}
use mathlib.Core.List.{List, [], ◌∷◌}
use native.Mathlib.Omega.{arith}
use lib.ListN.{length, get_or, drop, set, length-set, length-drop, get_or-eq_default}
use lib.Seq.{ext_get_or, get_or-drop, get_or-set_same, get_or-set_other}
use Rattle.ints.specs.Ratings.{max_rating, all_ratings}
use Rattle.ints.proofs.Laws.{cases}
use Rattle.ints.proofs.Ratings.{rating-most, ratings-get}
use Rattle.run_columns.specs.inner.Sums.{ratings_between}
use Rattle.run_columns.proofs.SumLaws.{length-between}
use Rattle.pass_tables.specs.inner.Tables.{total}
use Rattle.pass_tables.proofs.RowLaws.{total-more}

between-at : (ss : List ℕ) (i : ℕ) → suc i < length ss → get_or (ratings_between ss) i 0 ≡ get_or ss (suc i) 0 - get_or ss i 0
unfolding ratings_between
between-at [] i h = absurd (omega arith)
between-at (s ∷ []) i h = absurd (omega arith)
between-at (s ∷ t ∷ ss) zero h = refl
between-at (s ∷ t ∷ ss) (suc i) h = between-at (t ∷ ss) i (omega arith)

pub total-high : (f : ℕ → ℕ) (m n : ℕ) → ((v : ℕ) → f v ≤ m) → total f n ≤ m * n
unfolding total
total-high f m zero h = omega arith
total-high f m (suc n) h = omega (arith, total-high f m n h, h n)

module _ (sums : List ℕ) (one : 1 ≤ length sums) (ok : all_ratings (drop 1 sums) ≡ true) where
  -- with the first number 0
  abbrev pub from_none : List ℕ
  from_none = set sums 0 0

  small : (v : ℕ) → get_or from_none v 0 ≤ max_rating
  small zero = omega (arith, get_or-set_same sums 0 0 0 one)
  small (suc v) = let e : 1 + v ≡ suc v = omega arith in let g = get_or-set_other sums 0 (suc v) 0 0 (λ z. absurd (omega arith)) in
      let d = get_or-drop 1 sums v 0 ∙ ap (λ (i : ℕ). get_or sums i 0) e in
      cases (length (drop 1 sums)) v
      (λ h. omega (arith, get_or-eq_default (drop 1 sums) 0 {n = v} h))
      (λ h. omega (arith, rating-most (get_or (drop 1 sums) v 0) (ratings-get (drop 1 sums) v ok h)))

  pub total-small : total (λ (w : ℕ). get_or from_none w 0) (length from_none) ≤ max_rating * length sums
  total-small = omega (arith, total-high (λ (w : ℕ). get_or from_none w 0) max_rating (length from_none) small, length-set sums 0 0)

  pub ratings-back : (new : List ℕ) → length new ≡ length from_none → ((v : ℕ) → v < length from_none → get_or new v 0 ≡ total (λ (w : ℕ). get_or from_none w 0) (v + 1))
      → ratings_between new ≡ drop 1 sums
  ratings-back new long made = let l = length-set sums 0 0 in
      ext_get_or 0 (ratings_between new) (drop 1 sums) (omega (arith, length-between new, length-drop 1 sums))
      (λ i h. let n = i + 1 in let b = length-between new in
      let e : suc i ≡ n = omega arith in let f : 1 + i ≡ n = omega arith in
      omega (
        arith,
        between-at new i (omega arith),
        ap (λ (j : ℕ). get_or new j 0) e,
        made i (omega arith),
        made n (omega arith),
        total-more (λ (w : ℕ). get_or from_none w 0) n,
        get_or-set_other sums 0 n 0 0 (λ z. absurd (omega arith)),
        get_or-drop 1 sums i 0,
        ap (λ (j : ℕ). get_or sums j 0) f,
      ))
