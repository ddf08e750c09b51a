-- The run of a visit, as the program takes it from the state before: it is taken, and its outcome is the definition's. Assumes nothing.
use mathlib.Core.Path.{◌≡◌, refl, sym, ◌∙◌, ap, subst}
use mathlib.Core.Bool.{Bool, true, ◌&&◌}
use mathlib.Core.List.{List, ◌∷◌, ◌++◌, map}
use Prim.Native.Nat.{ℕ, suc, ◌+◌, ◌-◌, ◌≤◌, ◌<◌}
use native.Mathlib.Omega.{arith}
use borrow.Author.Tests.{le-leb, eq-eqb}
use lib.ListN.{length, get_or, take, drop, length-take, length-drop, get_or-eq_default}
use lib.Seq.{length-take-le, get_or-take, get_or-drop}
use lib.IntN.{ℤ}
use Rattle.ints.specs.Lists.{sum}
use Rattle.ints.specs.Ratings.{all_ratings}
use Rattle.ints.proofs.Laws.{cases}
use Rattle.ints.proofs.Ratings.{ratings-take, ratings-drop}
use Rattle.ints.proofs.Tests.{◌and◌}
use Rattle.run_columns.specs.inner.Sums.{ratings_between}
use Rattle.run_columns.proofs.SumLaws.{length-between}
use Rattle.plan.specs.Plan.{PlanData, numbers}
use Rattle.plan.specs.Acceptable.{acceptable}
use Rattle.plan.proofs.Sound.{sound as sound-plan}
use Rattle.passes.specs.State.{State, position_of}
use Rattle.passes.specs.Passes.{bound_at, distance_from, boxes_at, placed}
use Rattle.plan.proofs.All.{All}
use Rattle.passes.proofs.Sound.{Sound, sound}
use Rattle.plan.specs.inner.Levels.{first_on, size_on}
use Rattle.passes.specs.inner.Runs.{IsRun, Bounds}
use Rattle.passes.proofs.RunsOn.{bounds}
use Rattle.passes.proofs.Spaced.{possible}
use Rattle.passes.proofs.Invariant.{Inv, near-order}
use Rattle.passes.proofs.Placing.{side-of, stands, boxes-within}
use Rattle.passes.specs.inner.Schedule.{Visit, schedule}
use Rattle.pass_tables.proofs.LevelLaws.{along-length}
use Rattle.ints.specs.Reach.{is_within}
use Rattle.run.specs.Call.{Request, boxes_of, member_of, left_distance, all_distances, is_small, is_fitting, is_in_reach, is_sound, is_taken, placed_of}
use Rattle.run.proofs.WhenRefused.{taken-row}
use Rattle.pass_tables.specs.inner.Moments.{state_after, RunIs, Neighbouring}
use Rattle.pass_place.specs.inner.Asked.{left_of, right_of, part, counts_of, near_of, rates_of, asked}
use Rattle.pass_place.proofs.Reach.{past-runs, past-reached, past-lies}
use Rattle.pass_place.proofs.LevelEnds.{last_none}
use Rattle.pass_place.proofs.Boxes.{near-is, rates-are, counts-are, rows-rise, rows_inside, sum_rows, boxes-are}
use Rattle.pass_place.proofs.Sides.{LeftIs, left_is, RightIs, right_is, right-last}
use Rattle.passes.proofs.DrawingWithin.{within-lies}
use Rattle.pass_place.proofs.Tests.{part-within, map-within, all-distances}

six : (a b c d e f : Bool) → a ≡ true → b ≡ true → c ≡ true → d ≡ true → e ≡ true → f ≡ true → a && b && c && d && e && f ≡ true
six a b c d e f g h i j k l = rw (g, h, i, j, k, l)

module _ (p : PlanData) (ok : acceptable p ≡ true) (past : List Visit) (w : Visit) (coming : List Visit) (whole : schedule p ≡ past ++ w ∷ coming) where
  abbrev s : State
  s = state_after p past

  so : Sound p
  so = sound p ok

  inv : Inv p s
  inv = (past-reached p ok past (w ∷ coming) whole).inv

  module _ {start from end to : ℕ} (r : RunIs p w.run start from end to) where
    abbrev i : IsRun p w.run
    i = r.is

    b : Bounds p w.run i.low i.first i.count i.high
    b = bounds i

    pub left : LeftIs start from w.run.left i.low
    left = left_is start from i.begins r.starts r.first

    pub right : RightIs end to w.run.right i.high
    right = right_is end to i.ends r.past r.ends

    -- the distances of neighbouring members, and 0 where nothing follows
    abbrev pub distances : List ℕ
    distances = take (i.high - i.low - 1) (drop i.low s.apart)

    distance : (k : ℕ) → i.low + k < end → get_or distances k 0 ≡ get_or s.apart (i.low + k) 0
    distance k h = cases i.high (suc (i.low + k))
        (λ j. let e : suc (i.low + k) ≡ first_on p w.run.level + size_on p w.run.level = omega (arith, right-last i.ends (omega (arith, r.past)), r.past, b.right) in
        get_or-eq_default distances 0 {n = k} (omega (arith, length-take (i.high - i.low - 1) (drop i.low s.apart)))
        ∙ sym (last_none p w.run.level (i.low + k) i.one (omega (arith, b.from)) e past (past-runs p ok past (w ∷ coming) whole)))
        (λ j. get_or-take (i.high - i.low - 1) (drop i.low s.apart) k 0 (omega arith) ∙ get_or-drop i.low s.apart k 0)

    distances-long : length distances ≡ i.high - i.low - 1
    distances-long = length-take-le (i.high - i.low - 1) (drop i.low s.apart) (omega (arith, length-drop i.low s.apart, inv.apart_length, so.total, b.all))

    module _ {first ends sums : List ℕ} (m : Neighbouring p w.pass first ends sums) where
      abbrev request : Request
      request = asked (left_of start from s.at) (right_of end to s.at) distances from end first ends sums s.at

      rows : end < length first
      rows = omega (arith, m.long, so.total, b.all, b.right, r.past)

      boxes : boxes_of request ≡ boxes_at p w.pass s w.run.boxes
      boxes = let k : end - from ≡ i.count = omega (arith, r.past, r.first) in
          let f : numbers from (end - from) ≡ w.run.boxes = ap (λ (v : ℕ). numbers v (end - from)) r.first ∙ ap (numbers i.first) k ∙ sym i.boxes in
          rw (left.others s.at distances)
          (boxes-are m s from (end - from) end (omega (arith, r.past, r.first)) rows (omega (arith, inv.at_length, so.total, b.all, b.right, r.past)) (drop (from - i.low) distances)
          (λ k h. let e : i.low + (from - i.low + k) ≡ from + k = omega (arith, b.left, r.first) in
          get_or-drop (from - i.low) distances k 0 ∙ distance (from - i.low + k) (omega (arith, b.left, r.first)) ∙ ap (λ (v : ℕ). get_or s.apart v 0) e)
          ∙ ap (boxes_at p w.pass s) f)

      left-distance : left_distance (left_of start from s.at) distances ≡ distance_from s.apart w.run.left
      left-distance = let e : i.low + 0 ≡ i.low = omega arith in
          left.distance s.at distances s.apart (λ h. distance 0 (omega (arith, r.past, r.first)) ∙ ap (λ (v : ℕ). get_or s.apart v 0) e)

      pub placed-is : placed_of request ≡ placed p w.pass s w.run
      unfolding placed_of placed
      placed-is = rw (left.bound s.at, right.bound s.at, left-distance, boxes)

      -- ---- the tests
      old-long : length (part from end s.at) ≡ end - from
      old-long = length-take-le (end - from) (drop from s.at) (omega (arith, length-drop from s.at, inv.at_length, so.total, b.all, b.right, r.past))

      counts-sum : sum (counts_of first from (end - from)) ≡ get_or first end 0 - get_or first from 0
      counts-sum = let e : from + (end - from) ≡ end = omega (arith, r.past, r.first) in
          ap sum (counts-are first from (end - from)) ∙ sum_rows m from (end - from) (omega (arith, rows)) ∙ ap (λ (v : ℕ). get_or first v 0 - get_or first from 0) e

      counts-long : length (counts_of first from (end - from)) ≡ end - from
      counts-long = along-length _ 0 (end - from)

      nears-long : length (near_of ends s.at (get_or first from 0) (get_or first end 0 - get_or first from 0)) ≡ get_or first end 0 - get_or first from 0
      nears-long = along-length _ 0 (get_or first end 0 - get_or first from 0)

      rates-long : length (rates_of sums (get_or first from 0) (get_or first end 0 - get_or first from 0)) ≡ get_or first end 0 - get_or first from 0
      rates-long = let n = get_or first end 0 - get_or first from 0 in
          omega (
            arith,
            length-between (take (n + 1) (drop (get_or first from 0) sums)),
            length-take (n + 1) (drop (get_or first from 0) sums),
            length-drop (get_or first from 0) sums,
            rows-rise m from end (omega (arith, r.past, r.first)) rows,
            rows_inside m end rows,
            m.all,
            m.summed,
          )

      all-rated : all_ratings (rates_of sums (get_or first from 0) (get_or first end 0 - get_or first from 0)) ≡ true
      all-rated = let n = get_or first end 0 - get_or first from 0 in
          rw (rates-are sums (get_or first from 0) n) (ratings-take n (drop (get_or first from 0) (ratings_between sums)) (ratings-drop (get_or first from 0) (ratings_between sums) m.within))

      near-all : near_of ends s.at (get_or first from 0) (get_or first end 0 - get_or first from 0) ≡ map (position_of s.at) (take (get_or first end 0 - get_or first from 0) (drop (get_or first from 0) ends))
      near-all = near-is ends s.at (get_or first from 0) (get_or first end 0 - get_or first from 0) (omega (arith, rows-rise m from end (omega (arith, r.past, r.first)) rows, rows_inside m end rows))

      pub few : end - from ≤ 64
      few = omega (arith, so.small w.run.level, b.from, b.left, b.right, b.to, r.past, r.first)

      many : get_or first end 0 - get_or first from 0 ≤ 2048
      many = omega (arith, rows_inside m end rows, m.all, m.few)

      within : (v : ℕ) → is_within (position_of s.at v) ≡ true
      within v = within-lies 297685948928 (omega arith) (position_of s.at v) ((past-lies p ok past (w ∷ coming) whole).at v)

      all-far : all_distances distances ≡ true
      all-far = all-distances distances (λ k h. let v = i.low + k in let d = side-of i v (omega arith) (omega (arith, distances-long)) in
          let e : get_or distances k 0 ≡ get_or s.apart v 0 = distance k (omega (arith, distances-long, b.right1, r.past)) in
          let l = past-lies p ok past (w ∷ coming) whole in (
            omega (arith, inv.wide v d, (sound-plan p ok).limits.gap_low),
            omega (arith, inv.spaced v d, (l.at v).left, (l.at (suc v)).right),
          ))

      sound-request : is_sound request ≡ true
      sound-request = rw (left.bound s.at, right.bound s.at, left-distance, boxes) (◌and◌
          (near-order inv so w.pass (subst (λ (n : ℕ). All (λ v. v < n) w.run.boxes) so.total (boxes-within i)))
          (possible (bound_at s.at w.run.left) (distance_from s.apart w.run.left) (boxes_at p w.pass s w.run.boxes) (bound_at s.at w.run.right) (map (position_of s.at) w.run.boxes) (stands so inv i w.pass)))

      pub is-taken : (zs : List ℤ) → length zs ≡ end - from → is_taken request zs ≡ true
      is-taken zs e = taken-row request zs ∙ ◌and◌ (◌and◌ (◌and◌ small fitting) in_reach) sound-request
        where
          small : is_small request ≡ true
          small = ◌and◌ (le-leb (length (part from end s.at)) 64 (omega (arith, old-long, few))) (le-leb (sum (counts_of first from (end - from))) 2048 (omega (arith, counts-sum, many)))

          fitting : is_fitting request zs ≡ true
          fitting = six _ _ _ _ _ _ (eq-eqb _ _ (e ∙ sym old-long)) (eq-eqb (length (part from end s.at)) (length (part from end s.at)) refl) (eq-eqb _ _ (counts-long ∙ sym old-long)) (eq-eqb _ _ (nears-long ∙ sym counts-sum)) (eq-eqb _ _ (rates-long ∙ sym counts-sum))
              (eq-eqb (length distances) (member_of (left_of start from s.at) + length (part from end s.at) + member_of (right_of end to s.at) - 1)
              (omega (arith, distances-long, left.member s.at, right.member s.at, old-long, b.left, b.right, r.first, r.past)))

          in_reach : is_in_reach request ≡ true
          in_reach = six _ _ _ _ _ _ (left.within s.at within) (right.within s.at within) (part-within s.at within (end - from) from)
              (rw near-all (map-within s.at within (take (get_or first end 0 - get_or first from 0) (drop (get_or first from 0) ends)))) all-rated all-far
