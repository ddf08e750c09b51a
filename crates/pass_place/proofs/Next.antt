-- The state after a visit that places its run, and what the program of one placing needs and reaches. Assumes nothing.
use mathlib.Core.Path.{◌≡◌, sym, ◌∙◌, ap, subst}
use mathlib.Core.Bool.{Bool, true, cond, ◌&&◌}
use mathlib.Core.List.{List, [], ◌∷◌, ◌++◌, append_assoc}
use Prim.Native.Nat.{ℕ, suc, ◌+◌, ◌-◌, ◌≤◌}
use native.Mathlib.Omega.{arith}
use lib.Dec.{ltb}
use lib.ListN.{length}
use lib.IntN.{ℤ}
use Rattle.ints.specs.Ints.{◌⊑◌}
use Rattle.plan.specs.Plan.{PlanData, vertex_count, numbers}
use Rattle.passes.specs.Runs.{is_open}
use Rattle.passes.specs.State.{State, position_of, put, take_on}
use Rattle.passes.specs.Passes.{placed, after, visit}
use Rattle.passes.proofs.Sound.{Sound, sound}
use Rattle.plan.proofs.Levels.{level-within}
use Rattle.passes.specs.inner.Runs.{IsRun}
use Rattle.passes.proofs.RunsOn.{bounds, members-are}
use Rattle.passes.proofs.Invariant.{Inv}
use Rattle.passes.proofs.Placing.{side-of}
use Rattle.passes.specs.inner.Schedule.{Visit, visit_all, schedule, start}
use Rattle.passes.proofs.Schedule.{visit-append}
use Rattle.run.specs.Call.{is_taken, placed_of}
use Rattle.pass_tables.specs.inner.Moments.{state_after, AtVisit, Placing}
use Rattle.pass_place.specs.inner.Asked.{low_of, high_of, left_of, right_of, part, asked, taken_on, Rowed, Standing}
use Rattle.pass_place.proofs.Reach.{past-reached, past-lies}
use Rattle.pass_place.proofs.Boxes.{rows-rise, rows_inside}
use Rattle.pass_place.proofs.Sides.{bounded-both}
use Rattle.pass_place.proofs.Asks.{left, right, distances, placed-is, few, is-taken}

module _ {start' from end to : ℕ} {first ends sums : List ℕ} {at : List ℤ} {apart : List ℕ} {m : AtVisit} (h : Placing start' from end to first ends sums at apart m) where
  abbrev p : PlanData
  p = m.plan

  abbrev past : List Visit
  past = m.past

  abbrev w : Visit
  w = m.visit

  abbrev coming : List Visit
  coming = m.coming

  abbrev s : State
  s = state_after p past

  abbrev next : State
  next = state_after p (past ++ w ∷ [])

  abbrev i : IsRun p w.run
  i = h.run.is

  so : Sound p
  so = sound p h.ok

  now-inv : Inv p s
  now-inv = (past-reached p h.ok past (w ∷ coming) h.whole).inv

  split : schedule p ≡ (past ++ w ∷ []) ++ coming
  split = h.whole ∙ sym (append_assoc past (w ∷ []) coming)

  next-inv : Inv p next
  next-inv = (past-reached p h.ok (past ++ w ∷ []) coming split).inv

  next-is : next ≡ after w.pass w.run (placed p w.pass s w.run) s
  unfolding visit_all visit
  next-is = visit-append p past (w ∷ []) (start p) ∙ ap (λ (t : Bool). cond t (after w.pass w.run (placed p w.pass s w.run) s) s) h.due

  -- ---- where things lie
  low_is : low_of start' from ≡ i.low
  low_is = (left p h.ok past w coming h.whole h.run).low_is

  high_is : high_of end to ≡ i.high
  high_is = (right p h.ok past w coming h.whole h.run).high_is

  pub long : length at ≡ vertex_count p
  long = ap length h.places ∙ now-inv.at_length

  pub apart-long : length apart ≡ vertex_count p
  apart-long = ap length h.distances ∙ now-inv.apart_length

  pub small : vertex_count p ≤ 1024
  small = so.vertices

  pub order : from ≤ end
  order = omega (arith, h.run.first, h.run.past)

  pub inside : (from ≤ vertex_count p) × (end ≤ vertex_count p) × (to ≤ vertex_count p)
  inside = let b = bounds i in let r = h.run in let l = level-within p w.run.level in
      (omega (arith, so.total, r.first, r.past), omega (arith, so.total, r.past), omega (arith, so.total, r.ends))

  pub few-boxes : end - from ≤ 64
  few-boxes = few p h.ok past w coming h.whole h.run h.near

  pub members-in : (low_of start' from ≤ high_of end to) × (high_of end to ≤ vertex_count p)
  members-in = let b = bounds i in (omega (arith, low_is, high_is), omega (arith, high_is, so.total))

  pub rowed : Rowed from end first ends sums at
  rowed = let near = h.near in let n = long in record {
    order = order;
    boxes = omega (arith, inside.1);
    few = few-boxes;
    rows = omega (arith, inside.1, near.long);
    rising = λ v k. rows-rise near v (v + 1) (omega arith) k;
    inside = rows_inside near end (omega (arith, inside.1, near.long));
    many = omega (arith, near.all, near.few);
    summed = omega (arith, near.all, near.summed);
    vertices = λ k l. omega (arith, near.vertices k l);
  }

  -- ---- its outcome
  module _ (last : ℕ) (e : last - low_of start' from ≡ high_of end to - low_of start' from - 1) where
    ds-are : part (low_of start' from) last apart ≡ distances p h.ok past w coming h.whole h.run
    ds-are = ap (part (low_of start' from) last) h.distances ∙ rw (e, low_is, high_is)

    pub taken : (zs : List ℤ) → length zs ≡ end - from → is_taken (asked (left_of start' from at) (right_of end to at) (part (low_of start' from) last apart) from end first ends sums at) zs ≡ true
    taken zs k = subst (λ (xs : List ℤ). is_taken (asked (left_of start' from xs) (right_of end to xs) (part (low_of start' from) last apart) from end first ends sums xs) zs ≡ true) (sym h.places)
        (subst (λ (ds : List ℕ). is_taken (asked (left_of start' from s.at) (right_of end to s.at) ds from end first ends sums s.at) zs ≡ true) (sym ds-are)
        (is-taken p h.ok past w coming h.whole h.run h.near zs k))

    pub outcome : placed_of (asked (left_of start' from at) (right_of end to at) (part (low_of start' from) last apart) from end first ends sums at) ≡ placed p w.pass s w.run
    outcome = ap (λ (xs : List ℤ). placed_of (asked (left_of start' from xs) (right_of end to xs) (part (low_of start' from) last apart) from end first ends sums xs)) h.places
        ∙ ap (λ (ds : List ℕ). placed_of (asked (left_of start' from s.at) (right_of end to s.at) ds from end first ends sums s.at)) ds-are
        ∙ placed-is p h.ok past w coming h.whole h.run h.near

  pub next-at : (ys : List ℤ) → ys ≡ placed p w.pass s w.run → put (numbers from (end - from)) ys at ≡ next.at
  unfolding after
  next-at ys e = let k : end - from ≡ i.count = omega (arith, h.run.past, h.run.first) in
      let f : numbers from (end - from) ≡ w.run.boxes = ap (λ (v : ℕ). numbers v (end - from)) h.run.first ∙ ap (numbers i.first) k ∙ sym i.boxes in
      rw (f, e, h.places) (sym (ap (λ (t : State). t.at) next-is))

  pub next-standing : (xs : List ℤ) → xs ≡ next.at → Standing (low_of start' from) (high_of end to) xs
  next-standing xs e = let l = past-lies p h.ok (past ++ w ∷ []) coming split in rw (e, low_is, high_is) (record {
    order = omega (arith, (bounds i).left, (bounds i).right);
    members = omega (arith, next-inv.at_length, so.total, (bounds i).all);
    near = λ v. omega (arith, (l.at v).left, (l.at v).right);
    climbing = λ v j k. let z : suc v ≡ v + 1 = omega arith in
        subst (λ (u : ℕ). position_of next.at v ⊑ position_of next.at u) z (omega (arith, next-inv.spaced v (side-of i v j (omega arith))));
  })

  pub next-apart : (xs : List ℤ) → xs ≡ next.at → taken_on start' from end to xs apart ≡ next.apart
  unfolding after
  next-apart xs e = let o = placed p w.pass s w.run in
      let z : xs ≡ put w.run.boxes o s.at = e ∙ ap (λ (t : State). t.at) next-is in
      let ms = numbers (low_of start' from) (high_of end to - low_of start' from) in
      ap (λ (ds : List ℕ). cond (ltb start' from && ltb end to) ds (take_on xs ms ds)) h.distances
      ∙ ap (λ (ys : List ℤ). cond (ltb start' from && ltb end to) s.apart (take_on ys ms s.apart)) z
      ∙ rw (low_is, high_is, (left p h.ok past w coming h.whole h.run).via, (right p h.ok past w coming h.whole h.run).via)
      (bounded-both w.run.left w.run.right s.apart (take_on (put w.run.boxes o s.at) (numbers i.low (i.high - i.low)) s.apart))
      ∙ ap (λ (ms : List ℕ). cond (is_open w.run) (take_on (put w.run.boxes o s.at) ms s.apart) s.apart) (sym (members-are i))
      ∙ sym (ap (λ (t : State). t.apart) next-is)
