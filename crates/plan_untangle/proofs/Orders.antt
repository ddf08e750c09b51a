-- The order of a tangled plan: each vertex once and on its level; of each level's vias that shared out their places, the upper ends
-- stand in order. Assumes nothing.
use Prim.Native.Nat.{ℕ, zero, suc, ◌+◌, ◌-◌, ◌<◌}
use mathlib.Core.Path.{◌≡◌, refl, sym, ◌∙◌, ap}
use mathlib.Core.Logic.{inl}
use mathlib.Core.Bool.{Bool, true, false, ◌&&◌, true≢false}
use mathlib.Core.List.{List, [], ◌∷◌, map}
use native.Mathlib.Omega.{arith}
use borrow.Author.Tests.{eq-eqb, eqb-true, ne_eqb}
use lib.Dec.{eqb}
use lib.ListN.{length}
use Rattle.ints.proofs.Laws.{cases}
use Rattle.sorting.specs.Sort.{sort_by}
use Rattle.ints.specs.Lists.{chosen}
use Rattle.sorting.specs.Share.{refill, share_out}
use Rattle.ints.specs.inner.Members.{Mem}
use Rattle.sorting.specs.inner.Words.{Same, Sorted}
use Rattle.sorting.proofs.Counts.{same_refl, same-trans}
use Rattle.sorting.proofs.Shares.{fit-ind, share-fit, share-same, share-sorted, share-map, share_other, chosen-mem, sorted-key}
use Rattle.plan.specs.Plan.{PlanData, vertex_count, is_via, numbers, level_of}
use Rattle.plan.specs.Segments.{Segment, segments_of, above, above_in}
use Rattle.plan.specs.Strands.{first_or}
use Rattle.plan.specs.Checks.{check5}
use Rattle.ints.proofs.Tests.{and_left, and_right}
use Rattle.plan.proofs.CountLaws.{by-same}
use Rattle.plan.proofs.Sound.{Joined, one_each, mem-above, above-mem, mem-one}
use Rattle.plan_renumber.specs.Renumber.{place_in}
use Rattle.plan_renumber.specs.inner.Words.{Once}
use Rattle.plan_renumber.proofs.Places.{place_here, place-next}
use Rattle.plan_renumber.proofs.Own.{Own, same-own, same-below}
use Rattle.plan_renumber.proofs.Kept.{AllDown}
use Rattle.plan_untangle.specs.Order.{upper_end, shares, order_to, order}

-- ---- the place of a vertex that does not share
module _ (t : ℕ → Bool) (v : ℕ) (no : t v ≡ false) where
  not-it : (x : ℕ) → t x ≡ true → x ≡ v → ⊥
  not-it x e q = true≢false (sym e ∙ ap t q ∙ no)

  pub place_kept : (key : ℕ → ℕ) (m : List ℕ) → place_in (share_out t key m) v ≡ place_in m v
  unfolding share_out
  place_kept key m = fit-ind t (λ xs ys r. place_in r v ≡ place_in xs v) refl
      (λ x y xs ys a b h. place-next y (refill t xs ys) v (not-it y b) ∙ ap suc h ∙ sym (place-next x xs v (not-it x a)))
      (λ x xs ys a h. by-same x v
      (λ e. place_here x (refill t xs ys) v e ∙ sym (place_here x xs v e))
      (λ e. place-next x (refill t xs ys) v e ∙ ap suc h ∙ sym (place-next x xs v e)))
      m (sort_by key (chosen t m)) (share-fit t key m)

module _ (p : PlanData) where
  -- ---- which share
  pub shares-level : (l v : ℕ) → shares p l v ≡ true → level_of p v ≡ l
  shares-level l v e =
      let a = eqb (level_of p v) l in
      eqb-true (level_of p v) l (and_left a (is_via p v) (and_left (a && is_via p v) (is_via p (upper_end p v)) e))

  pub shares-via : (l v : ℕ) → shares p l v ≡ true → is_via p v ≡ true
  shares-via l v e =
      let a = eqb (level_of p v) l in
      and_right a (is_via p v) (and_left (a && is_via p v) (is_via p (upper_end p v)) e)

  pub shares-upper : (l v : ℕ) → shares p l v ≡ true → is_via p (upper_end p v) ≡ true
  shares-upper l v e = and_right (eqb (level_of p v) l && is_via p v) (is_via p (upper_end p v)) e

  pub shares-make : (l v : ℕ) → level_of p v ≡ l → is_via p v ≡ true → is_via p (upper_end p v) ≡ true → shares p l v ≡ true
  shares-make l v e a b = rw (eq-eqb (level_of p v) l e, a, b)

  shares-not : (l v : ℕ) → (level_of p v ≡ l → ⊥) → shares p l v ≡ false
  shares-not l v e = rw (ne_eqb (level_of p v) l e)

  shares-apart : (l k : ℕ) → (l ≡ k → ⊥) → (v : ℕ) → shares p l v ≡ true → shares p k v ≡ false
  shares-apart l k h v e = shares-not k v (λ q. h (sym (shares-level l v e) ∙ q))

  -- ---- one step
  abbrev pub key_by : List ℕ → ℕ → ℕ
  key_by m v = place_in m (upper_end p v)

  pub order-start : order_to p 0 ≡ numbers 0 (vertex_count p)
  unfolding order_to
  order-start = refl

  pub order-step : (l : ℕ) → order_to p (suc l) ≡ share_out (shares p (suc (suc l))) (key_by (order_to p l)) (order_to p l)
  unfolding order_to
  order-step l = refl

  -- ---- each vertex once, on its level
  pub order_same : (l : ℕ) → Same (order_to p l) (numbers 0 (vertex_count p))
  order_same zero = rw order-start (same_refl (numbers 0 (vertex_count p)))
  order_same (suc l) = rw (order-step l) (same-trans (share-same (shares p (suc (suc l))) (key_by (order_to p l)) (order_to p l)) (order_same l))

  order-levels : (l : ℕ) → map (λ v. level_of p v) (order_to p l) ≡ map (λ v. level_of p v) (numbers 0 (vertex_count p))
  order-levels zero = rw order-start
  order-levels (suc l) = rw (order-step l)
      (share-map (shares p (suc (suc l))) (key_by (order_to p l)) (order_to p l) (λ v. level_of p v) (suc (suc l)) (shares-level (suc (suc l))) ∙ order-levels l)

  pub order-to-own : (l : ℕ) → Own p (order_to p l)
  order-to-own l = same-own p (order_to p l) (order_same l) (order-levels l)

  pub order-once : (l : ℕ) → Once (vertex_count p) (order_to p l)
  order-once l = (order-to-own l).once

  pub order-own : Own p (order p)
  unfolding order
  order-own = order-to-own (p.levels - 1)

-- ---- the upper end of a via
first_one : (xs : List ℕ) (v : ℕ) → length xs ≡ 1 → Mem (first_or v xs) xs
first_one [] v e = absurd (omega arith)
first_one (x ∷ xs) v e = inl refl

module _ (p : PlanData) (d : AllDown p) (c : check5 p ≡ true) where
  pub upper-joined : (v : ℕ) → v < vertex_count p → is_via p v ≡ true → Joined (segments_of p) (upper_end p v) v
  unfolding above
  upper-joined v h i = mem-above (segments_of p) (upper_end p v) v (first_one (above_in (segments_of p) v) v (one_each p c v h i).0)

  pub upper_in : (v : ℕ) → v < vertex_count p → is_via p v ≡ true → upper_end p v < vertex_count p
  upper_in v h i =
      let j = upper-joined v h i in
      omega (arith, (d j.segment j.listed).upper_in, j.above_is)

  pub upper-level : (v : ℕ) → v < vertex_count p → is_via p v ≡ true → level_of p v ≡ level_of p (upper_end p v) + 1
  upper-level v h i =
      let j = upper-joined v h i in
      let k = d j.segment j.listed in
      ap (level_of p) (sym j.below_is) ∙ k.one_down ∙ ap (λ (u : ℕ). level_of p u + 1) j.above_is

  pub upper_is : (s : Segment) → Mem s (segments_of p) → is_via p s.lower ≡ true → upper_end p s.lower ≡ s.upper
  unfolding above
  upper_is s m i =
      let one = (one_each p c s.lower (d s m).lower_in i).0 in
      mem-one (above_in (segments_of p) s.lower) (upper_end p s.lower) s.upper one
      (first_one (above_in (segments_of p) s.lower) s.lower one) (above-mem (segments_of p) s m)

  -- ---- the upper ends stand in order, on every level that was rearranged
  pub order-sorted : (k l : ℕ) → l < k → Sorted (key_by p (order_to p k)) (chosen (shares p (suc (suc l))) (order_to p k))
  order-sorted zero l h = absurd (omega arith)
  order-sorted (suc k) l h =
      let m = order_to p k in
      let m' = order_to p (suc k) in
      let u = shares p (suc (suc l)) in
      let keys : (v : ℕ) → Mem v (chosen u m') → key_by p m v ≡ key_by p m' v = λ v j.
      let got = chosen-mem u m' v j in
      let up = upper-level v (same-below p m' (order_same p (suc k)) v got.0) (shares-via p (suc (suc l)) v got.1) in
      let far : shares p (suc (suc k)) (upper_end p v) ≡ false = shares-not p (suc (suc k)) (upper_end p v) (λ q. omega (arith, shares-level p (suc (suc l)) v got.1)) in
      rw (order-step p k) (sym (place_kept (shares p (suc (suc k))) (upper_end p v) far (key_by p m) m)) in
      sorted-key (key_by p m) (key_by p m') (chosen u m') keys (cases k l
      (λ j. let e : l ≡ k = omega arith in rw (e, order-step p k) (share-sorted (shares p (suc (suc k))) (key_by p m) m))
      (λ j. rw (order-step p k, share_other (shares p (suc (suc k))) u (shares-apart p (suc (suc k)) (suc (suc l)) (λ q. omega arith)) (key_by p m) m) (order-sorted k l j)))
