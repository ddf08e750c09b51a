-- A plan numbered anew and back again is the plan; numbered by its own numbers it stays. Assumes nothing.
use Prim.Native.Nat.{ℕ, ◌<◌}
use mathlib.Core.Path.{◌≡◌, refl, sym, ◌∙◌, ap}
use mathlib.Core.Bool.{true, false}
use mathlib.Core.List.{List, map, map-map}
use native.Mathlib.Omega.{arith}
use lib.ListN.{length, get_or, length-map}
use lib.Seq.{ext_get_or}
use Rattle.ints.proofs.Lists.{map-get_or}
use Rattle.sorting.specs.inner.Words.{Rising}
use Rattle.ints.specs.inner.Members.{Mem}
use Rattle.ints.proofs.Members.{map-stays}
use Rattle.sorting.proofs.Sorts.{rising-sorted, sorted-stays, rising-unique, rising-map}
use Rattle.plan.specs.Plan.{PlanData, vertex_count, is_via, half_width, numbers, level_of}
use Rattle.plan.specs.Segments.{Rated, segments_of, rated_of}
use Rattle.plan.specs.Checks.{check3, check4}
use Rattle.plan.specs.Acceptable.{limits_hold}
use Rattle.plan.proofs.LimitLaws.{Limits, limits}
use Rattle.plan.proofs.SegmentLaws.{uppers-again, lowers-again}
use Rattle.plan.proofs.GraphLaws.{Down}
use Rattle.plan.proofs.Sound.{goes}
use Rattle.plan_renumber.specs.Renumber.{place_in, inverse, segment_key, moved_rated, rated_key, moved_segments, renumbered}
use Rattle.plan_renumber.proofs.Places.{new-below, old-new, inverse-long, inverse-once, inverse-at, inverse-new, place-number, map_at}
use Rattle.plan_renumber.proofs.Own.{Own, new-level}
use Rattle.plan_renumber.proofs.Segments.{uppers_of, lowers_of, plain_of, rated-in}
use Rattle.plan_renumber.proofs.Kept.{AllDown, keys-rise, plain, plain-ratings, header-same, vertices-same, via-same, half-same, level-same, rated-are, rated-from, rated-to, plain-are, segments-are, limits-kept, down-kept, moved-rising}

-- the three lists of a plan's segments
parts : (r : PlanData) → Limits r → (rs : List Rated) → rs ≡ rated_of r
    → (map (λ q. q.segment.upper) rs ≡ r.uppers) × (map (λ q. q.segment.lower) rs ≡ r.lowers) × (map (λ q. q.rating) rs ≡ r.ratings)
unfolding segments_of
parts r l rs e =
    let ss : plain_of rs ≡ segments_of r = ap plain_of e ∙ plain r l in (
      sym (map-map (λ s. s.upper) (λ q. q.segment) rs) ∙ ap uppers_of ss ∙ uppers-again r.uppers r.lowers l.ends_long,
      sym (map-map (λ s. s.lower) (λ q. q.segment) rs) ∙ ap lowers_of ss ∙ lowers-again r.uppers r.lowers l.ends_long,
      ap (map (λ q. q.rating)) e ∙ plain-ratings r l,
    )

-- when a plan numbered anew is r: by its header, its vertices and its segments with their ratings
pub renumbered-is : (p r : PlanData) (m : List ℕ) → p.levels ≡ r.levels → p.gap ≡ r.gap → p.spacing ≡ r.spacing → p.sizes ≡ r.sizes
    → map (λ v. is_via p v) m ≡ r.vias → map (λ v. half_width p v) m ≡ r.halves → Limits r → moved_segments p m ≡ rated_of r → renumbered p m ≡ r
unfolding renumbered
renumbered-is p r m a b c d vs hs l e =
    let ps = parts r l (moved_segments p m) e in
    rw (ps.0, ps.1, ps.2, vs, hs, a, b, c, d)

-- segments with their ratings rise as they do without
rated-rise : (p : PlanData) → Limits p → Rising segment_key (segments_of p) → Rising rated_key (rated_of p)
rated-rise p l r = rising-map (λ q. q.segment) segment_key (rated_of p) (rw (plain p l) r)

rated-down : (p : PlanData) → AllDown p → (r : Rated) → Mem r (rated_of p) → Down p r.segment
unfolding rated_of
rated-down p d r k = d r.segment (rated-in (segments_of p) p.ratings r k)

-- ---- the numbers themselves
pub renumbered-same : (p : PlanData) → limits_hold p ≡ true → check3 p ≡ true → check4 p ≡ true → renumbered p (numbers 0 (vertex_count p)) ≡ p
unfolding moved_segments
renumbered-same p q c r =
    let l = limits p q in
    let d = goes p c in
    let m = numbers 0 (vertex_count p) in
    let stay : map (moved_rated m) (rated_of p) ≡ rated_of p = map-stays (moved_rated m) (rated_of p) (λ s k.
    let a = rated-down p d s k in
    rw (place-number (vertex_count p) s.segment.upper a.upper_in, place-number (vertex_count p) s.segment.lower a.lower_in)) in
    renumbered-is p p m refl refl refl refl (map_at p.vias false (vertex_count p) refl) (map_at p.halves 0 (vertex_count p) l.halves_long) l
    (rw stay (sorted-stays rated_key (rated_of p) (rising-sorted rated_key (rated_of p) (rated-rise p l (keys-rise p l d r)))))

-- ---- there and back
module _ (p : PlanData) (m : List ℕ) (o : Own p m) where
  pub own-inverse : Own (renumbered p m) (inverse m)
  own-inverse = record {
    once = rw (vertices-same p m o.once.long) (inverse-once (vertex_count p) m o.once);
    level = λ i h.
        let k : i < vertex_count p = rw (vertices-same p m o.once.long) at h in
        level-same p m (get_or (inverse m) i 0) ∙ ap (level_of p) (inverse-at (vertex_count p) m o.once i k) ∙ new-level p m o i k ∙ sym (level-same p m i);
  }

  -- the numbers themselves stay its own
  pub own-kept : Own (renumbered p m) m
  own-kept = record {
    once = rw (vertices-same p m o.once.long) o.once;
    level = λ i h. level-same p m (get_or m i 0) ∙ o.level i (rw (vertices-same p m o.once.long) at h) ∙ sym (level-same p m i);
  }

  -- what is read at the old number of the new number
  old-of-new : {A : Type 0} (f g : ℕ → A) (xs : List A) (e : A) → length xs ≡ vertex_count p
      → ((i : ℕ) → i < vertex_count p → f i ≡ g (get_or m i 0)) → ((i : ℕ) → g i ≡ get_or xs i e) → map f (inverse m) ≡ xs
  old-of-new f g xs e long h k =
      let n = vertex_count p in
      let is : length (map f (inverse m)) ≡ n = length-map (inverse m) f ∙ inverse-long n m o.once in
      ext_get_or e (map f (inverse m)) xs (is ∙ sym long)
      (λ i j. let q : i < n = omega arith in
      map-get_or f (inverse m) i 0 e (omega (arith, inverse-long n m o.once)) ∙ ap f (inverse-at n m o.once i q) ∙ h (place_in m i) (new-below n m o.once i q)
      ∙ ap g (old-new n m o.once i q) ∙ k i)

  back_one : (r : Rated) → Down p r.segment → moved_rated (inverse m) (moved_rated m r) ≡ r
  back_one r d = rw (inverse-new (vertex_count p) m o.once r.segment.upper d.upper_in, inverse-new (vertex_count p) m o.once r.segment.lower d.lower_in)

  back-segments : limits_hold p ≡ true → check3 p ≡ true → check4 p ≡ true → moved_segments (renumbered p m) (inverse m) ≡ rated_of p
  back-segments q c r =
      let l = limits p q in
      let d = goes p c in
      let rise = keys-rise p l d r in
      let p' = renumbered p m in
      let l' = limits p' (limits-kept p m q o.once) in
      let d' = down-kept p m l d o in
      let rise' : Rising segment_key (segments_of p') = rw (segments-are p m l) (moved-rising p m l d o rise) in
      let back = moved-rising p' (inverse m) l' d' own-inverse rise' in
      rising-unique rated_key (moved_segments p' (inverse m)) (rated_of p)
      (rising-map (λ q. q.segment) segment_key (moved_segments p' (inverse m)) (rw (plain-are p' (inverse m) l') back)) (rated-rise p l rise)
      (λ z k.
      let a = rated-from p' (inverse m) z k in
      let b = rated-from p m a.0 (rw (rated-are p m) at a.1) in
      rw (a.2 ∙ ap (moved_rated (inverse m)) b.2 ∙ back_one b.0 (rated-down p d b.0 b.1)) b.1)
      (λ z k. rw (back_one z (rated-down p d z k)) at (rated-to p' (inverse m) (moved_rated m z) (rw (rated-are p m) (rated-to p m z k))))

  pub renumbered-back : limits_hold p ≡ true → check3 p ≡ true → check4 p ≡ true → renumbered (renumbered p m) (inverse m) ≡ p
  renumbered-back q c r =
      let l = limits p q in
      let vs = old-of-new (λ v. is_via (renumbered p m) v) (λ v. is_via p v) p.vias false refl (λ i h. via-same p m i (omega (arith, o.once.long))) (λ i. refl) in
      let hs = old-of-new (λ v. half_width (renumbered p m) v) (λ v. half_width p v) p.halves 0 l.halves_long (λ i h. half-same p m i (omega (arith, o.once.long))) (λ i. refl) in
      let h = header-same p m in
      renumbered-is (renumbered p m) p (inverse m) h.levels h.gap h.spacing h.sizes vs hs l (back-segments q c r)
