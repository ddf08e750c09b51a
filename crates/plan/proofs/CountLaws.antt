-- Laws of `every`, of `count_of`, as a walk over a list meets them, and with it the numbers of a vertex's segments. Assumes nothing.
use Prim.Native.Nat.{ℕ, zero, suc, ◌+◌, ◌<◌, ◌≤◌}
use mathlib.Core.Path.{◌≡◌, refl, sym, ap}
use mathlib.Core.Bool.{Bool, true, false, cond, ◌&&◌}
use mathlib.Core.List.{List, [], ◌∷◌}
use native.Mathlib.Omega.{arith}
use native.Mathlib.Numerals.{add-one}
use borrow.Author.Tests.{eqb-true, eqb-false, eq-eqb, ne_eqb}
use lib.Dec.{eqb}
use lib.ListN.{length, get_or, drop, set, replicate, length-set, length-replicate, get_or-replicate, drop_of_length-le}
use lib.Seq.{drop-cons, get_or-set_same, get_or-set_other}
use Rattle.std.specs.List.{list_all, range_with_len}
use Rattle.ints.specs.Lists.{count_if, count_of}
use Rattle.plan.specs.Plan.{numbers}
use Rattle.plan.specs.Segments.{segments_from, segments_of, above_in, below_in}
use Rattle.plan.specs.Checks.{every, is_through, check5}
use Rattle.plan.specs.inner.Graph.{graph_of, Counted, through}

-- whether two numbers are the same
pub by-same : (a b : ℕ) {G : Type 0} → (a ≡ b → G) → ((a ≡ b → ⊥) → G) → G
by-same a b {G} f g = go (eqb a b) refl
  where
    go : (t : Bool) → eqb a b ≡ t → G
    go true e = f (eqb-true a b e)
    go false e = g (eqb-false a b e)

-- ---- count_of
module _ (v x : ℕ) (xs : List ℕ) where
  pub count_same : x ≡ v → count_of v (x ∷ xs) ≡ suc (count_of v xs)
  unfolding count_of count_if
  count_same h = rw (eq-eqb x v h)

  pub count-other : (x ≡ v → ⊥) → count_of v (x ∷ xs) ≡ count_of v xs
  unfolding count_of count_if
  count-other h = rw (ne_eqb x v h)

pub count_none : (v : ℕ) → count_of v [] ≡ 0
unfolding count_of count_if
count_none v = refl

pub count-le : (v : ℕ) (xs : List ℕ) → count_of v xs ≤ length xs
count-le v [] = omega (arith, count_none v)
count-le v (x ∷ xs) = by-same x v
    (λ h. omega (arith, count_same v x xs h, count-le v xs))
    (λ h. omega (arith, count-other v x xs h, count-le v xs))

-- ---- a walk that has counted the first i
pub record Counting (xs counts : List ℕ) (i : ℕ) : Type 0 where
  pub each : (v : ℕ) → v < length counts → get_or counts v 0 + count_of v (drop i xs) ≡ count_of v xs

pub count-start : (n : ℕ) (xs : List ℕ) → Counting xs (replicate n 0) 0
count-start n xs = record {
  each = λ v h. let k : v < n = rw length-replicate at h in omega (arith, get_or-replicate {A = ℕ} n v 0 0 k);
}

module _ (xs counts : List ℕ) (i : ℕ) (w : Counting xs counts i) where
  pub count-end : length xs ≤ i → (v : ℕ) → v < length counts → get_or counts v 0 ≡ count_of v xs
  count-end h v k = omega (arith, w.each v k, ap (count_of v) (drop_of_length-le xs h), count_none v)

  pub count-on : i < length xs → get_or xs i 0 < length counts → Counting xs (set counts (get_or xs i 0) (get_or counts (get_or xs i 0) 0 + 1)) (i + 1)
  count-on h k = let x = get_or xs i 0 in let ys = drop (suc i) xs in record {
    each = λ v m.
        let m' : v < length counts = rw length-set at m in
        let before : get_or counts v 0 + count_of v (x ∷ ys) ≡ count_of v xs = rw (drop-cons xs i 0 h) at (w.each v m') in
        rw (add-one i) (by-same x v
        (λ e. rw (← e) (omega (arith, get_or-set_same counts x (get_or counts x 0 + 1) 0 k, count_same x x ys refl, rw (← e) at before)))
        (λ e. omega (arith, get_or-set_other counts x v (get_or counts x 0 + 1) 0 (λ q. e (sym q)), count-other v x ys e)));
  }

  -- so a count stays small
  pub count_small : (v : ℕ) → v < length counts → get_or counts v 0 ≤ length xs
  count_small v h = omega (arith, w.each v h, count-le v xs)

-- ---- a vertex's segments
pub above-count : («as» bs : List ℕ) (v : ℕ) → length «as» ≡ length bs → length (above_in (segments_from «as» bs) v) ≡ count_of v bs
unfolding segments_from above_in
above-count [] [] v e = sym (count_none v)
above-count [] (b ∷ bs) v e = absurd (omega arith)
above-count (a ∷ «as») [] v e = absurd (omega arith)
above-count (a ∷ «as») (b ∷ bs) v e =
    let more = above-count «as» bs v (omega arith) in
    by-same b v (λ h. rw (eq-eqb b v h, count_same v b bs h, more)) (λ h. rw (ne_eqb b v h, count-other v b bs h) more)

pub below-count : («as» bs : List ℕ) (v : ℕ) → length «as» ≡ length bs → length (below_in (segments_from «as» bs) v) ≡ count_of v «as»
unfolding segments_from below_in
below-count [] [] v e = sym (count_none v)
below-count [] (b ∷ bs) v e = absurd (omega arith)
below-count (a ∷ «as») [] v e = absurd (omega arith)
below-count (a ∷ «as») (b ∷ bs) v e =
    let more = below-count «as» bs v (omega arith) in
    by-same a v (λ h. rw (eq-eqb a v h, count_same v a «as» h, more)) (λ h. rw (ne_eqb a v h, count-other v a «as» h) more)

-- ---- `every`, and as chains ask it
and-cond : (a b : Bool) → (a && b) ≡ cond a b false
and-cond true b = refl
and-cond false b = refl

pub list_all-every : {A : Type 0} (t : A → Bool) (xs : List A) → list_all t xs ≡ every t xs
unfolding every
list_all-every t [] = refl
list_all-every t (x ∷ xs) = rw (list_all-every t xs) (and-cond (t x) (every t xs))

-- ---- check 5: of the vertices from v on, n of them
abbrev pub through_from : List Bool → List ℕ → List ℕ → ℕ → ℕ → Bool
through_from vias «as» bs v n = every (is_through (graph_of [] vias «as» bs) (segments_from «as» bs)) (numbers v n)

module _ (vias : List Bool) («as» bs : List ℕ) where
  pub check5-same : (sizes : List ℕ) → check5 (graph_of sizes vias «as» bs) ≡ through_from vias «as» bs 0 (length vias)
  unfolding check5 segments_of is_through
  check5-same sizes = refl

  module _ (k : ℕ) (up down : List ℕ) (u : Counted k bs up) (d : Counted k «as» down) (e : length «as» ≡ length bs) where
    through_same : (v : ℕ) → v < k → is_through (graph_of [] vias «as» bs) (segments_from «as» bs) v ≡ through (get_or vias v false) (get_or up v 0) (get_or down v 0)
    unfolding is_through
    through_same v h = rw (above-count «as» bs v e, below-count «as» bs v e, u.each v h, d.each v h)

    -- as the program asks it, by the counts
    pub through-all : (v n : ℕ) → v + n ≤ k → list_all (λ v. through (get_or vias v false) (get_or up v 0) (get_or down v 0)) (range_with_len v n) ≡ through_from vias «as» bs v n
    unfolding every numbers
    through-all v zero h = refl
    through-all v (suc n) h =
        rw (through_same v (omega arith), through-all (v + 1) n (omega arith)) (and-cond (through (get_or vias v false) (get_or up v 0) (get_or down v 0)) (through_from vias «as» bs (v + 1) n))
