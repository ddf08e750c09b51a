-- A bounded run placed in pass 1 or 2 is best against the finished drawing too. It was ready, so each neighbour of its boxes is left of
-- the via that its left bound is upright with, or right of the other, both times; or it stands for good already. Assumes nothing.
use mathlib.Core.Path.{◌≡◌, refl, sym, ◌∙◌, ap, subst}
use mathlib.Core.Bool.{Bool, true, false, cond}
use mathlib.Core.List.{List, ◌∷◌, Memᴰ}
use Prim.Native.Nat.{ℕ, suc, ◌+◌, ◌≤◌, ◌<◌}
use native.Mathlib.Omega.{arith}
use lib.Dec.{eqb}
use lib.ListN.{length, get_or}
use lib.IntN.{ℤ}
use Rattle.ints.specs.Ints.{◌⊑◌}
use Rattle.ints.proofs.Laws.{cases, eq-read}
use Rattle.plan.specs.Plan.{PlanData, vertex_count, is_via, level_of}
use Rattle.plan.specs.Segments.{segments_of, rated_of}
use Rattle.passes.specs.Runs.{Run, runs_on, no_run, is_bounded}
use Rattle.passes.specs.State.{State, position_of, put}
use Rattle.passes.specs.Ready.{is_settled, lies_between, settled_between}
use Rattle.passes.specs.Drawing.{trace_of}
use Rattle.passes.specs.Words.{before, finished, is_placement_then, sideways_sum, sideways_then}
use Rattle.passes.specs.Demand3.{Best}
use Rattle.plan.proofs.All.{All, all_map, all-get, all_right, every-all}
use Rattle.plan.specs.inner.Levels.{On, HasLevel}
use Rattle.plan.proofs.Levels.{level-on, has-level}
use Rattle.passes.proofs.Sound.{Sound, via-vertex}
use Rattle.passes.specs.inner.Runs.{IsRun}
use Rattle.passes.proofs.RunsOn.{bounds, run-at, run-level}
use Rattle.passes.proofs.Spaced.{SpacedAt}
use Rattle.passes.proofs.Invariant.{in_order}
use Rattle.passes.proofs.Placing.{placement-points}
use Rattle.passes.proofs.Edges.{left_at, right-at, right-of-left, left-of-right}
use Rattle.passes.proofs.Schedule.{ToRuns, visit-append}
use Rattle.passes.specs.inner.Schedule.{Visit, visit_all, schedule, start}
use Rattle.passes.proofs.Trace.{Reached}
use Rattle.passes.proofs.Moments.{Moment, then, step, final, visit-run, reached_then, reached-final, finished-is, before-is, run_is, runs_of}
use Rattle.demand3.proofs.BestThen.{step_at-is, then_is, best-then}
use Rattle.demand3.proofs.Settled.{settled-from, stands-still}
use Rattle.passes.proofs.Covered.{box-range, found, between-vias}
use Rattle.demand3.proofs.ReadyVias.{levels-same, Beside, IsReady, ready, due-ready}
use Rattle.demand3.proofs.Steady.{Steady, steady-right, steady-left, steady-same, place_out, place_in, SteadyFrom, steady-from, steady-none, SteadyAt, sum-steady}
use Rattle.passes.proofs.Preliminary.{Preliminary}

settled_at : (p : PlanData) (s : State) (u w : ℕ) → settled_between p s u w ≡ true → (k : ℕ) → k < length (runs_on p (level_of p u))
    → lies_between u w (get_or (runs_on p (level_of p u)) k no_run).left (get_or (runs_on p (level_of p u)) k no_run).right ≡ true → is_settled p s (get_or (runs_on p (level_of p u)) k no_run) ≡ true
unfolding settled_between
settled_at p s u w e k h f = let g = all-get (runs_on p (level_of p u)) no_run (every-all (λ r. cond (lies_between u w r.left r.right) (is_settled p s r) true) (runs_on p (level_of p u)) e) k h in
    sym (ap (λ t. cond t (is_settled p s (get_or (runs_on p (level_of p u)) k no_run)) true) f) ∙ g

-- ---- a state, a run that is ready in it, and a later state
module _ {p : PlanData} (so : Sound p) (pre : Preliminary p) {s : State} (c : Reached p s) {ws : List Visit} (js : ToRuns p ws) (cf : Reached p (visit_all p ws s))
    {t : Bool} {r : Run} (i : IsRun p r) (d : IsReady p t s r) where
  via-same : (v : ℕ) → is_via p v ≡ true → position_of (visit_all p ws s).at v ≡ position_of s.at v
  via-same v e = cf.vias v e ∙ sym (c.vias v e)

  -- a box between the two vias is in a run that is bounded and settled
  in-run : (n : ℕ) {r' : Run} (i' : IsRun p r') → Memᴰ n r'.boxes → r'.level ≡ level_of p d.low → level_of p d.high ≡ level_of p d.low → d.low ≤ n → n ≤ d.high
      → (lies_between d.low d.high r'.left r'.right ≡ true → is_settled p s r' ≡ true) → position_of (visit_all p ws s).at n ≡ position_of s.at n
  in-run n {r'} i' m z f j k settled =
      let u = d.low in let w = d.high in let c1 = box-range i' n m in
      let hu = has-level p u (omega (arith, so.total, via-vertex p u d.before.joined.far)) in let hw = has-level p w (omega (arith, so.total, via-vertex p w d.after.joined.far)) in
      let bt = between-vias i' n c1.0 c1.1 u w (rw z hu.on) (rw (z ∙ sym f) hw.on) j k d.before.joined.far d.after.joined.far in
      stands-still so i' bt.0 n c1.0 c1.1 c (settled-from c i' (settled bt.1)) js

  -- a neighbour between the two vias stands for good
  between : (n : ℕ) → n < vertex_count p → level_of p n ≡ level_of p d.low → level_of p d.high ≡ level_of p d.low → d.low ≤ n → n ≤ d.high
      → position_of (visit_all p ws s).at n ≡ position_of s.at n
  between n h e f j k = go (is_via p n) refl
    where
      box : is_via p n ≡ false → HasLevel p n → position_of (visit_all p ws s).at n ≡ position_of s.at n
      box g l =
          let lv = level_of p d.low in let F = found p lv n (subst (λ m. On p m n) e l.on) g in
          in-run n (run-at p lv F.index (omega (arith, l.one)) (omega (arith, l.many, so.sizes)) F.few) F.box (run-level p lv F.index F.few).0 f j k
          (settled_at p s d.low d.high d.settled F.index F.few)

      go : (b : Bool) → is_via p n ≡ b → position_of (visit_all p ws s).at n ≡ position_of s.at n
      go true g = via-same n g
      go false g = box g (has-level p n (omega (arith, so.total)))

  -- ---- a neighbour outside the two vias stays outside
  on-level : (v : ℕ) → On p r.level v → level_of p v ≡ r.level
  on-level v o = level-on p r.level v i.one o

  left-on : On p r.level d.left
  left-on = let l = left_at d.left i.begins d.left_is in let b = bounds i in record { from = omega arith; to = omega (arith, right-at d.right i.ends d.right_is) }

  right-on : On p r.level d.right
  right-on = let l = right-at d.right i.ends d.right_is in let b = bounds i in record { from = omega arith; to = omega arith }

  before-level : level_of p d.before.vertex ≡ r.level
  before-level = on-level d.before.vertex (record { from = d.before.from; to = d.before.to })

  after-level : level_of p d.after.vertex ≡ r.level
  after-level = on-level d.after.vertex (record { from = d.after.from; to = d.after.to })

  stays-left : (n : ℕ) → n ≤ d.low → level_of p n ≡ level_of p d.low → (position_of s.at n ⊑ position_of s.at d.left) × (position_of (visit_all p ws s).at n ⊑ position_of s.at d.left)
  stays-left n h e =
      let u = d.low in let v = d.before.vertex in let k = bounds i in
      let a1 = in_order c.inv so n u h (via-vertex p u d.before.joined.far) e in
      let f1 = in_order cf.inv so n u h (via-vertex p u d.before.joined.far) e in
      let a2 = eq-read (position_of s.at u) (position_of s.at v) (d.before.joined.upright pre c) in
      let f2 = eq-read (position_of (visit_all p ws s).at u) (position_of s.at u) (via-same u d.before.joined.far) in
      let a3 = in_order c.inv so v d.left d.before.side (omega (arith, left-on.to, so.total, k.all, left_at d.left i.begins d.left_is, k.left, k.right)) (before-level ∙ sym (on-level d.left left-on)) in
      (omega arith, omega arith)

  stays-right : (n : ℕ) → d.high ≤ n → n < vertex_count p → level_of p n ≡ level_of p d.high → (position_of s.at d.right ⊑ position_of s.at n) × (position_of s.at d.right ⊑ position_of (visit_all p ws s).at n)
  stays-right n h m e =
      let u = d.high in let v = d.after.vertex in let k = bounds i in
      let a1 = in_order c.inv so u n h m (sym e) in
      let f1 = in_order cf.inv so u n h m (sym e) in
      let a2 = eq-read (position_of s.at u) (position_of s.at v) (d.after.joined.upright pre c) in
      let f2 = eq-read (position_of (visit_all p ws s).at u) (position_of s.at u) (via-same u d.after.joined.far) in
      let a3 = in_order c.inv so d.right v d.after.side (via-vertex p v d.after.joined.via) (on-level d.right right-on ∙ sym after-level) in
      (omega arith, omega arith)

  -- ---- so its distance differs by what does not depend on the placement
  module _ (ys zs : List ℤ) (yfar : SpacedAt i s ys) (zfar : SpacedAt i s zs) where
    steady : (b n : ℕ) → i.first ≤ b → b < i.first + i.count → Beside p t b n
        → Steady (position_of (put r.boxes ys s.at) b) (position_of (put r.boxes zs s.at) b) (position_of s.at n) (position_of (visit_all p ws s).at n)
    steady b n h k q =
        let g = bounds i in let lb = on-level b (record { from = omega arith; to = omega arith }) in
        let el : level_of p n ≡ level_of p d.low = levels-same t _ _ _ _ (lb ∙ sym before-level) q.levels d.before.joined.beside.levels in
        let eh : level_of p n ≡ level_of p d.high = levels-same t _ _ _ _ (lb ∙ sym after-level) q.levels d.after.joined.beside.levels in
        let Y = position_of (put r.boxes ys s.at) b in let Z = position_of (put r.boxes zs s.at) b in let A = position_of s.at n in let C = position_of (visit_all p ws s).at n in
        let yl = right-of-left i s ys yfar d.left d.left_is b h k in let zl = right-of-left i s zs zfar d.left d.left_is b h k in
        let yr = left-of-right i s ys yfar d.right d.right_is b h k in let zr = left-of-right i s zs zfar d.right d.right_is b h k in
        cases d.low n
        (λ m. cases n d.high (λ m'. steady-same Y Z A C (between n q.near el (sym eh ∙ el) m m'))
        (λ m'. let o = stays-right n (omega arith) q.near eh in steady-left Y Z A C (omega arith) (omega arith) (omega arith) (omega arith)))
        (λ m. let o = stays-left n (omega arith) el in steady-right Y Z A C (omega arith) (omega arith) (omega arith) (omega arith))

    module _ (ly : length ys ≡ i.count) (lz : length zs ≡ i.count) where
      steady-ends : (b n : ℕ) → Beside p t b n → SteadyFrom r.boxes ys zs s.at (visit_all p ws s).at b n
      steady-ends b n q = cases i.first b (λ h. cases (suc b) (i.first + i.count) (λ k. inside h k) (λ k. outside (λ x y. absurd (omega arith)))) (λ h. outside (λ x y. absurd (omega arith)))
        where
          inside : i.first ≤ b → b < i.first + i.count → SteadyFrom r.boxes ys zs s.at (visit_all p ws s).at b n
          inside h k = let g = bounds i in let l : i.first + i.count ≤ length s.at = omega (arith, so.total, c.inv.at_length, g.all) in
              steady-from r.boxes ys zs s.at (visit_all p ws s).at b n (position_of (put r.boxes ys s.at) b) (position_of (put r.boxes zs s.at) b)
              (rw i.boxes (place_in i.first i.count ys s.at b l ly h k)) (rw i.boxes (place_in i.first i.count zs s.at b l lz h k)) (steady b n h k q)

          outside : (i.first ≤ b → b < i.first + i.count → ⊥) → SteadyFrom r.boxes ys zs s.at (visit_all p ws s).at b n
          outside h = steady-none r.boxes ys zs s.at (visit_all p ws s).at b n (rw i.boxes (place_out i.first i.count ys b h)) (rw i.boxes (place_out i.first i.count zs b h))

      steady-segments : (t' : Bool) → t ≡ t' → All (SteadyAt t' r.boxes ys zs s.at (visit_all p ws s).at) (segments_of p)
      steady-segments true e = all_map (λ x o. steady-ends x.upper x.lower (rw e (record { box = o.upper; near = o.lower; levels = o.levels }))) so.down
      steady-segments false e = all_map (λ x o. steady-ends x.lower x.upper (rw e (record { box = o.lower; near = o.upper; levels = o.levels }))) so.down

-- ---- the theorem
module _ {p : PlanData} (so : Sound p) (pre : Preliminary p) {n : ℕ} (m : Moment p (schedule p) (start p) n) (b : is_bounded m.visit.run ≡ true) (h : m.visit.pass ≤ 2) where
  rest_is : visit_all p (m.visit ∷ m.coming) (then m) ≡ final p
  rest_is = sym (ap (λ vs. visit_all p vs (start p)) m.is ∙ visit-append p m.past (m.visit ∷ m.coming) (start p))

  was-ready : IsReady p (eqb m.visit.pass 2) (then m) m.visit.run
  was-ready = ready so m.visit.pass (then m) m.visit.run (due-ready p m.visit.pass (then m) m.visit.run b h m.due)

  sum_then : (xs ys : List ℤ) → sideways_then p (step m) xs ys ≡ sideways_sum m.visit.pass m.visit.run.boxes ys xs (rated_of p)
  unfolding sideways_then
  sum_then xs ys = ap (λ (r : Run). sideways_sum m.visit.pass r.boxes ys xs (rated_of p)) (run_is so pre m)

  -- the difference of two placements is the same then and in the end, whatever the ratings
  same-rated : (ys zs : List ℤ) → is_placement_then p (trace_of p) n ys ≡ true → is_placement_then p (trace_of p) n zs ≡ true
      → sideways_sum m.visit.pass m.visit.run.boxes zs (final p).at (rated_of p) + sideways_sum m.visit.pass m.visit.run.boxes ys (then m).at (rated_of p)
      ≡ sideways_sum m.visit.pass m.visit.run.boxes ys (final p).at (rated_of p) + sideways_sum m.visit.pass m.visit.run.boxes zs (then m).at (rated_of p)
  unfolding rated_of
  same-rated ys zs e g =
      let i = visit-run so pre m in let c = reached_then so pre m in let q = m.visit.pass in
      let y = placement-points so c.inv i q ys (sym (then_is so pre m ys) ∙ e) in let z = placement-points so c.inv i q zs (sym (then_is so pre m zs) ∙ g) in
      let js = all_right m.past (m.visit ∷ m.coming) (runs_of so pre m) in
      let cf : Reached p (visit_all p (m.visit ∷ m.coming) (then m)) = subst (Reached p) (sym rest_is) (reached-final so pre) in
      rw (← rest_is) (sum-steady (eqb q 2) q m.visit.run.boxes ys zs (then m).at (visit_all p (m.visit ∷ m.coming) (then m)).at p.ratings refl
      (steady-segments so pre c js cf i was-ready ys zs y.1 z.1 y.0 z.0 (eqb q 2) refl))

  same_sum : (ys zs : List ℤ) → is_placement_then p (trace_of p) n ys ≡ true → is_placement_then p (trace_of p) n zs ≡ true
      → sideways_then p (step m) (final p).at zs + sideways_then p (step m) (then m).at ys ≡ sideways_then p (step m) (final p).at ys + sideways_then p (step m) (then m).at zs
  same_sum ys zs e g = omega (arith, same-rated ys zs e g, sum_then (final p).at zs, sum_then (then m).at ys, sum_then (final p).at ys, sum_then (then m).at zs)

  pub best-last : Best p (trace_of p) n (finished p (trace_of p))
  best-last = let o = best-then so pre m in record {
    placement = o.placement;
    least = λ ys e. let w : is_placement_then p (trace_of p) n (step m).positions ≡ true = rw (step_at-is so pre m) at o.placement in
        let l : sideways_then p (step m) (then m).at (step m).positions ≤ sideways_then p (step m) (then m).at ys = rw (step_at-is so pre m, before-is so pre m) at (o.least ys e) in
        rw (step_at-is so pre m, finished-is so pre) (omega (arith, same_sum ys (step m).positions e w));
  }
