-- Rows of neighbours are the definition's neighbours, rows of ratings its ratings; what is read off the neighbours of vias is the definition's
-- joined via. Assumes nothing.
use Prim.Native.Nat.{ℕ, ◌+◌, ◌<◌}
use mathlib.Core.Path.{◌≡◌, refl, sym, ◌∙◌, ap}
use mathlib.Core.Bool.{true, cond}
use mathlib.Core.List.{List, [], ◌∷◌}
use mathlib.Core.Option.{none, some}
use native.Mathlib.Omega.{arith}
use borrow.Author.Tests.{eq-eqb, ne_eqb}
use lib.Dec.{eqb}
use lib.ListN.{length, get_or, take, drop}
use lib.Seq.{get_or-take, get_or-drop}
use Rattle.ints.proofs.Laws.{if-ind}
use Rattle.plan.specs.Plan.{PlanData, is_via}
use Rattle.plan.specs.Segments.{segments_from, segments_of, above_in, below_in, above, below, rated_from, rated_of, ratings_above, ratings_below}
use Rattle.ints.specs.Lists.{count_of}
use Rattle.plan.proofs.CountLaws.{by-same, count_same, count-other, count_none}
use Rattle.passes.specs.Ready.{preceding, preceding_ratings, first_via, joined_via}
use Rattle.passes.proofs.Sound.{Sound}
use Rattle.pass_tables.specs.inner.Tables.{picked_by, Rows}
use Rattle.pass_tables.specs.inner.Joins.{Preceding, or_none, joined_at}

-- ---- neighbours by keys
pub picked-above : («as» bs : List ℕ) (v : ℕ) → length «as» ≡ length bs → above_in (segments_from «as» bs) v ≡ picked_by v bs «as»
unfolding segments_from above_in picked_by
picked-above [] [] v e = refl
picked-above [] (b ∷ bs) v e = absurd (omega arith)
picked-above (a ∷ «as») [] v e = absurd (omega arith)
picked-above (a ∷ «as») (b ∷ bs) v e = let more = picked-above «as» bs v (omega arith) in
    by-same b v (λ h. rw (eq-eqb b v h, more)) (λ h. rw (ne_eqb b v h) more)

pub picked-below : («as» bs : List ℕ) (v : ℕ) → length «as» ≡ length bs → below_in (segments_from «as» bs) v ≡ picked_by v «as» bs
unfolding segments_from below_in picked_by
picked-below [] [] v e = refl
picked-below [] (b ∷ bs) v e = absurd (omega arith)
picked-below (a ∷ «as») [] v e = absurd (omega arith)
picked-below (a ∷ «as») (b ∷ bs) v e = let more = picked-below «as» bs v (omega arith) in
    by-same a v (λ h. rw (eq-eqb a v h, more)) (λ h. rw (ne_eqb a v h) more)

-- and their ratings
ratings-above : («as» bs ws : List ℕ) (v : ℕ) → length «as» ≡ length bs → length ws ≡ length «as» → ratings_above (rated_from (segments_from «as» bs) ws) v ≡ picked_by v bs ws
unfolding segments_from rated_from ratings_above picked_by
ratings-above [] [] ws v e f = refl
ratings-above [] (b ∷ bs) ws v e f = absurd (omega arith)
ratings-above (a ∷ «as») [] ws v e f = absurd (omega arith)
ratings-above (a ∷ «as») (b ∷ bs) [] v e f = absurd (omega arith)
ratings-above (a ∷ «as») (b ∷ bs) (w ∷ ws) v e f = let more = ratings-above «as» bs ws v (omega arith) (omega arith) in
    by-same b v (λ h. rw (eq-eqb b v h, more)) (λ h. rw (ne_eqb b v h) more)

ratings-below : («as» bs ws : List ℕ) (v : ℕ) → length «as» ≡ length bs → length ws ≡ length «as» → ratings_below (rated_from (segments_from «as» bs) ws) v ≡ picked_by v «as» ws
unfolding segments_from rated_from ratings_below picked_by
ratings-below [] [] ws v e f = refl
ratings-below [] (b ∷ bs) ws v e f = absurd (omega arith)
ratings-below (a ∷ «as») [] ws v e f = absurd (omega arith)
ratings-below (a ∷ «as») (b ∷ bs) [] v e f = absurd (omega arith)
ratings-below (a ∷ «as») (b ∷ bs) (w ∷ ws) v e f = let more = ratings-below «as» bs ws v (omega arith) (omega arith) in
    by-same a v (λ h. rw (eq-eqb a v h, more)) (λ h. rw (ne_eqb a v h) more)

pub picked-length : (v : ℕ) (ks os : List ℕ) → length os ≡ length ks → length (picked_by v ks os) ≡ count_of v ks
unfolding picked_by
picked-length v [] os e = sym (count_none v)
picked-length v (k ∷ ks) [] e = absurd (omega arith)
picked-length v (k ∷ ks) (o ∷ os) e = let more = picked-length v ks os (omega arith) in
    by-same k v (λ h. rw (eq-eqb k v h, count_same v k ks h, more)) (λ h. rw (ne_eqb k v h, count-other v k ks h) more)

module _ (p : PlanData) (e : length p.uppers ≡ length p.lowers) (f : length p.ratings ≡ length p.uppers) where
  -- pass 2 goes up, the preceding level being the one below
  pub preceding-below : Preceding p 2 p.uppers p.lowers p.ratings
  unfolding preceding preceding_ratings below segments_of rated_of
  preceding-below = record {
    near = λ v. picked-below p.uppers p.lowers v e;
    long = sym e;
    ratings_near = λ v. ratings-below p.uppers p.lowers p.ratings v e f;
    ratings_long = f;
  }

  -- passes 1 and 3 go down
  pub preceding-above : (q : ℕ) → (q ≡ 2 → ⊥) → Preceding p q p.lowers p.uppers p.ratings
  unfolding preceding preceding_ratings above segments_of rated_of
  preceding-above q h = record {
    near = λ v. rw (ne_eqb q 2 h) (picked-above p.uppers p.lowers v e);
    long = e;
    ratings_near = λ v. rw (ne_eqb q 2 h) (ratings-above p.uppers p.lowers p.ratings v e f);
    ratings_long = f ∙ e;
  }

-- ---- the one neighbour of a via
record One (xs : List ℕ) : Type 0 where
  pub only : ℕ
  pub is : xs ≡ only ∷ []

one : (xs : List ℕ) → length xs ≡ 1 → One xs
one [] h = absurd (omega arith)
one (x ∷ []) h = record { only = x; is = refl }
one (x ∷ y ∷ ys) h = absurd (omega arith)

via-one : {p : PlanData} → Sound p → (q v : ℕ) → is_via p v ≡ true → length (preceding p q v) ≡ 1
unfolding preceding
via-one {p} so q v t = if-ind (eqb q 2) (below p v) (above p v) (λ l. length l ≡ 1) (λ h. (so.through v t).1) (λ h. (so.through v t).0)

only-via : (p : PlanData) (w : ℕ) → or_none (first_via p (w ∷ [])) ≡ cond (is_via p w) w 2048
unfolding first_via
only-via p w = if-ind (is_via p w) (some w) none (λ o. or_none o ≡ cond (is_via p w) w 2048) (λ h. rw h) (λ h. rw h)

module _ {p : PlanData} (so : Sound p) (q : ℕ) {keys others ratings : List ℕ} (d : Preceding p q keys others ratings) {first ends : List ℕ} (r : Rows keys others first ends) where
  -- where a via's row starts, its neighbour stands
  pub row_one : (v : ℕ) → v < length first → is_via p v ≡ true → preceding p q v ≡ get_or ends (get_or first v 0) 0 ∷ []
  row_one v h t =
      let o = one (preceding p q v) (via-one so q v t) in
      let picked : picked_by v keys others ≡ o.only ∷ [] = sym (d.near v) ∙ o.is in
      let count : count_of v keys ≡ 1 = sym (picked-length v keys others d.long) ∙ ap length picked in
      let row : take 1 (drop (get_or first v 0) ends) ≡ o.only ∷ [] = rw (← count) (r.row v h ∙ picked) in
      let z : get_or first v 0 + 0 ≡ get_or first v 0 = omega arith in
      let at : get_or ends (get_or first v 0) 0 ≡ o.only = ap (λ (i : ℕ). get_or ends i 0) (sym z) ∙ sym (get_or-drop (get_or first v 0) ends 0 0) ∙ sym (get_or-take 1 (drop (get_or first v 0) ends) 0 0 (omega arith)) ∙ ap (λ (l : List ℕ). get_or l 0 0) row in
      o.is ∙ ap (λ (w : ℕ). w ∷ []) (sym at)

  pub joined_is : (v : ℕ) → v < length first → or_none (joined_via p q v) ≡ joined_at p.vias first ends v
  unfolding joined_via
  joined_is v h = if-ind (is_via p v) (first_via p (preceding p q v)) none (λ o. or_none o ≡ joined_at p.vias first ends v)
      (λ t. let w = get_or ends (get_or first v 0) 0 in ap (λ (l : List ℕ). or_none (first_via p l)) (row_one v h t) ∙ only-via p w ∙ rw t)
      (λ t. rw t)
