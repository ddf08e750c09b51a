-- What a plan numbered anew keeps: its limits and checks 3, 4 and 5. Assumes nothing.
use Prim.Native.Nat.{ℕ, suc, ◌+◌, ◌<◌, ◌≤◌}
use mathlib.Core.Path.{◌≡◌, refl, sym, ◌∙◌, ap}
use mathlib.Core.Bool.{Bool, true, false}
use mathlib.Core.List.{List, [], ◌∷◌, map, map-map}
use native.Mathlib.Omega.{arith}
use borrow.Author.Tests.{lt-ltb, eq-eqb, eqb-true, ne_eqb, le-leb}
use lib.Dec.{eqb}
use lib.ListN.{length, get_or, length-map}
use Rattle.ints.proofs.Lists.{map-get_or}
use Rattle.ints.specs.Lists.{count_if}
use Rattle.ints.specs.Ratings.{is_rating, all_ratings}
use Rattle.ints.specs.inner.Members.{Mem}
use Rattle.sorting.specs.Sort.{sort_by}
use Rattle.sorting.specs.inner.Words.{Rising}
use Rattle.ints.proofs.Members.{map-mem, mem-map}
use Rattle.sorting.proofs.Counts.{count_same, count_map}
use Rattle.sorting.proofs.Sorts.{sort-same, sort-length, sort-mem, mem-sort, sort_sorted, sorted-rising, rising-once, sort-map}
use Rattle.plan.specs.Plan.{PlanData, vertex_count, is_via, half_width, numbers, level_of}
use Rattle.plan.specs.Limits.{max_half_width, max_vertices}
use Rattle.plan.specs.Segments.{Segment, Rated, segments_of, rated_of, above_in, below_in}
use Rattle.plan.specs.Checks.{goes_one_down, check3, check4, is_through, check5}
use Rattle.plan.specs.Acceptable.{half_holds, halves_hold, limits_hold}
use Rattle.ints.proofs.Tests.{◌and◌}
use Rattle.plan.proofs.CountLaws.{by-same}
use Rattle.plan.proofs.LimitLaws.{LimitTests, limit-tests, limits-hold, Limits, limits}
use Rattle.plan.proofs.RatedLaws.{rated-segments, rated-ratings, rated-again, rated-count}
use Rattle.plan.proofs.SegmentLaws.{segments-again, segments-count}
use Rattle.plan.proofs.GraphLaws.{Down}
use Rattle.plan.proofs.Sound.{goes, every_in, every-make, mem-numbers, numbers-mem}
use Rattle.plan_renumber.specs.Renumber.{place_in, segment_key, moved, moved_rated, rated_key, moved_segments, renumbered}
use Rattle.plan_renumber.specs.inner.Words.{Once}
use Rattle.plan_renumber.proofs.Places.{new-below, old-new, new-old, new-same}
use Rattle.plan_renumber.proofs.Own.{Own, new-level}
use Rattle.plan_renumber.proofs.Segments.{plain_of, as_many, rated-rating, ratings-all, LowersIn, rising-keys, keys-rising, key-same, above-counts, below-counts}

-- ---- a plan's tests from plain facts
module _ (p : PlanData) where
  -- every segment goes one level down
  abbrev pub AllDown : Type 0
  AllDown = (s : Segment) → Mem s (segments_of p) → Down p s

  pub down-all : AllDown → check3 p ≡ true
  unfolding check3
  down-all f = every-make (goes_one_down p) (segments_of p) (λ s m.
      let d = f s m in
      rw (lt-ltb s.upper (vertex_count p) d.upper_in, lt-ltb s.lower (vertex_count p) d.lower_in, eq-eqb (level_of p s.lower) (level_of p s.upper + 1) d.one_down))

  pub lowers-in : Limits p → AllDown → LowersIn (segments_of p)
  lowers-in l f s m = omega (arith, (f s m).lower_in, l.vertices)

  pub keys-rise : Limits p → AllDown → check4 p ≡ true → Rising segment_key (segments_of p)
  unfolding check4
  keys-rise l f c = rising-keys (segments_of p) (lowers-in l f) c

  -- the segments without their ratings, and the ratings
  pub plain : Limits p → plain_of (rated_of p) ≡ segments_of p
  unfolding rated_of segments_of
  plain l = rated-segments (segments_of p) p.ratings (as_many p.uppers p.lowers p.ratings l.ends_long l.ratings_long)

  pub plain-ratings : Limits p → map (λ r. r.rating) (rated_of p) ≡ p.ratings
  unfolding rated_of segments_of
  plain-ratings l = rated-ratings (segments_of p) p.ratings (as_many p.uppers p.lowers p.ratings l.ends_long l.ratings_long)

-- ---- half-widths in another order
half-holds : (b : Bool) (h : ℕ) → (b ≡ true → h ≡ 0) → (b ≡ false → 1 ≤ h) → h ≤ max_half_width → half_holds b h ≡ true
half-holds true h f g k = eq-eqb h 0 (f refl)
half-holds false h f g k = le-leb 1 h (g refl) and le-leb h max_half_width k

module _ (p : PlanData) (l : Limits p) where
  halves-kept : (m : List ℕ) → ((i : ℕ) → i < length m → get_or m i 0 < vertex_count p) → halves_hold (map (λ v. is_via p v) m) (map (λ v. half_width p v) m) ≡ true
  unfolding halves_hold
  halves-kept [] f = refl
  halves-kept (v ∷ m) f =
      let here : half_holds (is_via p v) (half_width p v) ≡ true =
      half-holds (is_via p v) (half_width p v) (l.halves_via v) (l.halves_box v (f 0 (omega arith))) (l.halves_high v) in
      rw here (halves-kept m (λ i h. f (suc i) (omega arith)))

-- ---- what the new plan's lists are
pub record Header (p q : PlanData) : Type 0 where
  pub levels : q.levels ≡ p.levels
  pub gap : q.gap ≡ p.gap
  pub spacing : q.spacing ≡ p.spacing
  pub sizes : q.sizes ≡ p.sizes

module _ (p : PlanData) (m : List ℕ) where
  pub header-same : Header p (renumbered p m)
  unfolding renumbered
  header-same = record { levels = refl; gap = refl; spacing = refl; sizes = refl }

  pub vertices-same : length m ≡ vertex_count p → vertex_count (renumbered p m) ≡ vertex_count p
  unfolding renumbered
  vertices-same e = length-map m (λ v. is_via p v) ∙ e

  pub via-same : (i : ℕ) → i < length m → is_via (renumbered p m) i ≡ is_via p (get_or m i 0)
  unfolding renumbered
  via-same i h = map-get_or (λ v. is_via p v) m i 0 false h

  pub half-same : (i : ℕ) → i < length m → half_width (renumbered p m) i ≡ half_width p (get_or m i 0)
  unfolding renumbered
  half-same i h = map-get_or (λ v. half_width p v) m i 0 0 h

  pub level-same : (v : ℕ) → level_of (renumbered p m) v ≡ level_of p v
  unfolding renumbered level_of
  level-same v = refl

  -- ---- its segments with their ratings
  pub rated-are : rated_of (renumbered p m) ≡ moved_segments p m
  unfolding renumbered rated_of segments_of
  rated-are =
      let rs = moved_segments p m in
      rw (← map-map (λ s. s.upper) (λ r. r.segment) rs, ← map-map (λ s. s.lower) (λ r. r.segment) rs, segments-again (plain_of rs)) (rated-again rs)

  pub rated-from : (r : Rated) → Mem r (moved_segments p m) → (q : Rated) × Mem q (rated_of p) × (r ≡ moved_rated m q)
  unfolding moved_segments
  rated-from r k = map-mem (moved_rated m) (rated_of p) r (sort-mem rated_key (map (moved_rated m) (rated_of p)) r k)

  pub rated-to : (r : Rated) → Mem r (rated_of p) → Mem (moved_rated m r) (moved_segments p m)
  unfolding moved_segments
  rated-to r k = mem-sort rated_key (map (moved_rated m) (rated_of p)) (moved_rated m r) (mem-map (moved_rated m) (rated_of p) r k)

  moved-long : LimitTests p → length (moved_segments p m) ≡ length p.uppers
  unfolding moved_segments rated_of segments_of
  moved-long t =
      sort-length rated_key (map (moved_rated m) (rated_of p)) ∙ length-map (rated_of p) (moved_rated m)
      ∙ rated-count (segments_of p) p.ratings (as_many p.uppers p.lowers p.ratings t.ends t.rated) ∙ segments-count p.uppers p.lowers t.ends

  moved-ratings : LimitTests p → all_ratings (map (λ r. r.rating) (moved_segments p m)) ≡ true
  unfolding rated_of
  moved-ratings t = ratings-all (moved_segments p m) (λ r k.
      let from = rated-from r k in
      ap (λ (q : Rated). is_rating q.rating) from.2 ∙ rated-rating (segments_of p) p.ratings from.0 t.ratings from.1)

  -- ---- its segments
  abbrev pub new_segments : List Segment
  new_segments = sort_by segment_key (map (moved m) (segments_of p))

  pub plain-are : Limits p → plain_of (moved_segments p m) ≡ new_segments
  unfolding moved_segments
  plain-are l =
      let rs = rated_of p in
      sort-map (λ r. r.segment) segment_key (map (moved_rated m) rs)
      ∙ ap (sort_by segment_key) (map-map (λ r. r.segment) (moved_rated m) rs ∙ sym (map-map (moved m) (λ r. r.segment) rs) ∙ ap (map (moved m)) (plain p l))

  pub segments-are : Limits p → segments_of (renumbered p m) ≡ new_segments
  unfolding renumbered segments_of
  segments-are l =
      let rs = moved_segments p m in
      rw (← map-map (λ s. s.upper) (λ r. r.segment) rs, ← map-map (λ s. s.lower) (λ r. r.segment) rs) (segments-again (plain_of rs) ∙ plain-are l)

  pub moved-from : (s : Segment) → Mem s new_segments → (r : Segment) × Mem r (segments_of p) × (s ≡ moved m r)
  moved-from s k = map-mem (moved m) (segments_of p) s (sort-mem segment_key (map (moved m) (segments_of p)) s k)

  pub moved-counts : (t : Segment → Bool) → count_if t new_segments ≡ count_if (λ s. t (moved m s)) (segments_of p)
  moved-counts t = (sort-same segment_key (map (moved m) (segments_of p))).counts t ∙ count_map (moved m) t (segments_of p)

  -- ---- the limits
  pub limits-kept : limits_hold p ≡ true → Once (vertex_count p) m → limits_hold (renumbered p m) ≡ true
  limits-kept q o =
      let t = limit-tests p q in
      let rs = moved_segments p m in
      limits-hold (renumbered p m) (unfold renumbered in record {
        levels = t.levels;
        gap = t.gap;
        spacing = t.spacing;
        counted = t.counted;
        sizes = t.sizes;
        summed = t.summed ∙ sym (length-map m (λ v. is_via p v) ∙ o.long);
        vertices = omega (arith, length-map m (λ v. is_via p v), o.long, t.vertices);
        halves = halves-kept p (limits p q) m (λ i h. o.below i (omega (arith, o.long)));
        ends = length-map rs (λ r. r.segment.lower) ∙ sym (length-map rs (λ r. r.segment.upper));
        segments = omega (arith, length-map rs (λ r. r.segment.upper), moved-long t, t.segments);
        rated = length-map rs (λ r. r.rating) ∙ sym (length-map rs (λ r. r.segment.upper));
        ratings = moved-ratings t;
      })

  module _ (l : Limits p) (d : AllDown p) (o : Own p m) where
    -- ---- check 3
    moved_down : (s : Segment) → Down p s → Down (renumbered p m) (moved m s)
    moved_down s k = record {
      upper_in = rw (vertices-same o.once.long) (new-below (vertex_count p) m o.once s.upper k.upper_in);
      lower_in = rw (vertices-same o.once.long) (new-below (vertex_count p) m o.once s.lower k.lower_in);
      one_down = rw (level-same (place_in m s.lower), level-same (place_in m s.upper), new-level p m o s.lower k.lower_in, new-level p m o s.upper k.upper_in) k.one_down;
    }

    pub down-kept : AllDown (renumbered p m)
    down-kept s k =
        let from = moved-from s (rw (segments-are l) at k) in
        rw from.2 (moved_down from.0 (d from.0 from.1))

    -- ---- check 4
    moved-lowers : LowersIn new_segments
    moved-lowers s k = omega (arith, (down-kept s (rw (segments-are l) k)).lower_in, vertices-same o.once.long, l.vertices)

    pub moved-rising : Rising segment_key (segments_of p) → Rising segment_key new_segments
    moved-rising r = sorted-rising segment_key new_segments (sort_sorted segment_key (map (moved m) (segments_of p)))
        (λ k. rw (moved-counts (λ s. eqb (segment_key s) k)) (rising-once segment_key (λ s. eqb (segment_key (moved m s)) k) (segments_of p) r
        (λ s t a b e f.
        let x = d s a in
        let y = d t b in
        let same = key-same (moved m s) (moved m t) (low s x) (low t y)
        (eqb-true (segment_key (moved m s)) k e ∙ sym (eqb-true (segment_key (moved m t)) k f)) in
        omega (
          arith,
          new-same (vertex_count p) m o.once s.upper t.upper x.upper_in y.upper_in same.0,
          new-same (vertex_count p) m o.once s.lower t.lower x.lower_in y.lower_in same.1,
        ))))
      where
        low : (s : Segment) → Down p s → place_in m s.lower < max_vertices
        low s k = omega (arith, new-below (vertex_count p) m o.once s.lower k.lower_in, l.vertices)

    -- ---- check 5: as many segments end at a vertex under its new number
    place-test : (i v : ℕ) → i < vertex_count p → v < vertex_count p → eqb (place_in m v) i ≡ eqb v (get_or m i 0)
    place-test i v h k = by-same v (get_or m i 0)
        (λ e. eq-eqb (place_in m v) i (ap (place_in m) e ∙ new-old (vertex_count p) m o.once i h) ∙ sym (eq-eqb v (get_or m i 0) e))
        (λ e. ne_eqb (place_in m v) i (λ q. e (sym (old-new (vertex_count p) m o.once v k) ∙ ap (λ (j : ℕ). get_or m j 0) q)) ∙ sym (ne_eqb v (get_or m i 0) e))

    above_same : (i : ℕ) → i < vertex_count p → length (above_in new_segments i) ≡ length (above_in (segments_of p) (get_or m i 0))
    above_same i h =
        above-counts new_segments i ∙ moved-counts (λ s. eqb s.lower i)
        ∙ count_same (λ s. eqb (place_in m s.lower) i) (λ s. eqb s.lower (get_or m i 0)) (segments_of p) (λ s k. place-test i s.lower h (d s k).lower_in)
        ∙ sym (above-counts (segments_of p) (get_or m i 0))

    below-same : (i : ℕ) → i < vertex_count p → length (below_in new_segments i) ≡ length (below_in (segments_of p) (get_or m i 0))
    below-same i h =
        below-counts new_segments i ∙ moved-counts (λ s. eqb s.upper i)
        ∙ count_same (λ s. eqb (place_in m s.upper) i) (λ s. eqb s.upper (get_or m i 0)) (segments_of p) (λ s k. place-test i s.upper h (d s k).upper_in)
        ∙ sym (below-counts (segments_of p) (get_or m i 0))

    pub through_same : (i : ℕ) → i < vertex_count p → is_through (renumbered p m) new_segments i ≡ is_through p (segments_of p) (get_or m i 0)
    unfolding is_through
    through_same i h = rw (above_same i h, below-same i h, via-same i (omega (arith, o.once.long)))

    through-kept : check5 p ≡ true → check5 (renumbered p m) ≡ true
    unfolding check5
    through-kept c = rw (segments-are l, vertices-same o.once.long)
        (every-make (is_through (renumbered p m) new_segments) (numbers 0 (vertex_count p)) (λ i k.
        let h : i < vertex_count p = omega (arith, numbers-mem 0 (vertex_count p) i k) in
        through_same i h ∙ every_in (is_through p (segments_of p)) (numbers 0 (vertex_count p)) (get_or m i 0) c (mem-numbers 0 (vertex_count p) (get_or m i 0) (omega arith) (omega (arith, o.once.below i h)))))

  -- ---- the checks
  pub check3-kept : limits_hold p ≡ true → check3 p ≡ true → Own p m → check3 (renumbered p m) ≡ true
  check3-kept q c o = down-all (renumbered p m) (down-kept (limits p q) (goes p c) o)

  pub check4-kept : limits_hold p ≡ true → check3 p ≡ true → check4 p ≡ true → Own p m → check4 (renumbered p m) ≡ true
  unfolding check4
  check4-kept q c r o =
      let l = limits p q in
      let d = goes p c in
      rw (segments-are l) (keys-rising new_segments (moved-lowers l d o) (moved-rising l d o (keys-rise p l d r)))

  pub check5-kept : limits_hold p ≡ true → check3 p ≡ true → check5 p ≡ true → Own p m → check5 (renumbered p m) ≡ true
  check5-kept q c t o = through-kept (limits p q) (goes p c) o t
