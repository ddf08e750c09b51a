-- The distances in force when a run is placed: doubled ones, or for an open run in pass 2 those that it took on in pass 1, which are
-- what the words of demand 3 read off the trace. Assumes nothing.
use mathlib.Core.Path.{◌≡◌, refl, sym, ◌∙◌, ap, subst}
use mathlib.Core.Bool.{Bool, true, false, cond, not, ◌&&◌}
use mathlib.Core.List.{List, [], ◌∷◌, ◌++◌, append_assoc}
use mathlib.Core.Logic.{◌⊎◌, inl, inr}
use Prim.Native.Nat.{ℕ, zero, suc, ◌+◌, ◌-◌, ◌≤◌, ◌<◌}
use native.Mathlib.Omega.{arith}
use lib.Dec.{eqb}
use borrow.Author.Tests.{eq-eqb, eqb-true}
use lib.ListN.{get_or}
use lib.IntN.{ℤ, ◌-ℤ◌}
use Rattle.ints.specs.Ints.{P}
use Rattle.ints.proofs.Tests.{and_left, and_right}
use Rattle.plan.specs.Plan.{PlanData, numbers}
use Rattle.preliminary.specs.Positions.{preliminary}
use Rattle.passes.specs.Runs.{Run, is_open, is_bounded, members, run_at}
use Rattle.passes.specs.State.{Step, State, position_of, put, doubled, start_at}
use Rattle.passes.specs.Ready.{places}
use Rattle.passes.specs.Passes.{placed, after, visit}
use Rattle.passes.specs.Drawing.{trace_of}
use Rattle.passes.specs.Words.{run_of, replay, doubled_between, differences, through_first, distances_then, times_placed}
use Rattle.plan.proofs.All.{All, all_nil, all_cons, all_left, all_right, all_tail, no_true}
use Rattle.passes.proofs.Sound.{Sound}
use Rattle.passes.specs.inner.Runs.{IsRun}
use Rattle.passes.proofs.RunsOn.{bounds, members-are}
use Rattle.passes.proofs.Put.{take_in}
use Rattle.passes.proofs.Spaced.{in_force}
use Rattle.passes.proofs.Placing.{side-of}
use Rattle.passes.proofs.Schedule.{ToRuns, visit-append, Differ, Other}
use Rattle.passes.specs.inner.Schedule.{Visit, visit_of, visit_all, schedule, start}
use Rattle.passes.proofs.Trace.{step_of, Reached, reached-visit, reached-all, reached-start, start-apart}
use Rattle.passes.proofs.Moments.{grown-all, Moment, then, step, next, final-trace, past-runs, visit-run, trace-is}
use Rattle.passes.proofs.Located.{Twice, Where, at_first, at_second, at-third, where-is}
use Rattle.passes.proofs.Counts.{visits-other, due-open}
use Rattle.passes.proofs.Frame.{pairs-kept, pair-still, bounded-still, visit-keeps, other-pair}
use Rattle.passes.proofs.Preliminary.{Preliminary}

-- ---- a run, or another
pub same-or-other : {p : PlanData} {r r' : Run} → IsRun p r → IsRun p r' → (r' ≡ r) ⊎ Differ r r'
same-or-other {p} {r} {r'} i j = go (eqb r'.level r.level && eqb r'.ordinal r.ordinal) refl
  where
    go : (t : Bool) → eqb r'.level r.level && eqb r'.ordinal r.ordinal ≡ t → (r' ≡ r) ⊎ Differ r r'
    go false e = inr e
    go true e = inl (sym j.told ∙ ap (λ l. run_at p l r'.ordinal) (eqb-true _ _ (and_left _ _ e)) ∙ ap (run_at p r.level) (eqb-true _ _ (and_right (eqb r'.level r.level) _ e)) ∙ i.told)

-- ---- a bounded run's distances never change
module _ {p : PlanData} {r : Run} (i : IsRun p r) (b : is_bounded r ≡ true) (v : ℕ) (h : i.low ≤ v) (k : suc v < i.high) where
  bounded-visit : (w : Visit) (s : State) → IsRun p w.run → get_or (visit p w.pass w.run s).apart v 0 ≡ get_or s.apart v 0
  bounded-visit w s j = visit-keeps p (λ (t : State). get_or t.apart v 0) w s (go (same-or-other i j))
    where
      go : (w.run ≡ r) ⊎ Other r w → get_or (after w.pass w.run (placed p w.pass s w.run) s).apart v 0 ≡ get_or s.apart v 0
      go (inl e) = ap (λ ds. get_or ds v 0) (bounded-still j w.pass (placed p w.pass s w.run) s (ap is_bounded e ∙ b))
      go (inr o) = pair-still j w.pass (placed p w.pass s w.run) s v (λ m n. other-pair i j o v h (omega (arith, (bounds i).right1)) m n)

  bounded-visits : {ws : List Visit} (s : State) → ToRuns p ws → get_or (visit_all p ws s).apart v 0 ≡ get_or s.apart v 0
  unfolding visit_all
  bounded-visits s all_nil = refl
  bounded-visits s (all_cons {x = w} j js) = bounded-visits (visit p w.pass w.run s) js ∙ bounded-visit w s j

-- ---- the words' distances, and those in force
pub doubled-force : (p : PlanData) (ds : List ℕ) (a n : ℕ) → ((v : ℕ) → a ≤ v → suc v < a + n → get_or ds v 0 ≡ doubled p v (suc v)) → in_force ds (numbers a n) ≡ doubled_between p (numbers a n)
unfolding in_force doubled_between numbers
doubled-force p ds a zero f = refl
doubled-force p ds a (suc zero) f = refl
doubled-force p ds a (suc (suc n)) f = let e : suc a ≡ a + 1 = omega arith in
    ap (λ d. d ∷ in_force ds (numbers (a + 1) (suc n))) (f a (omega arith) (omega arith) ∙ ap (doubled p a) e)
    ∙ ap (λ l. doubled p a (a + 1) ∷ l) (doubled-force p ds (a + 1) (suc n) (λ v h k. f v (omega arith) (omega arith)))

differ-force : (xs : List ℤ) (ds : List ℕ) (a n : ℕ) → ((v : ℕ) → a ≤ v → suc v < a + n → get_or ds v 0 ≡ P (position_of xs (suc v) -ℤ position_of xs v)) → in_force ds (numbers a n) ≡ differences xs (numbers a n)
unfolding in_force differences numbers
differ-force xs ds a zero f = refl
differ-force xs ds a (suc zero) f = refl
differ-force xs ds a (suc (suc n)) f = let e : suc a ≡ a + 1 = omega arith in
    ap (λ d. d ∷ in_force ds (numbers (a + 1) (suc n))) (f a (omega arith) (omega arith) ∙ ap (λ w. P (position_of xs w -ℤ position_of xs a)) e)
    ∙ ap (λ l. P (position_of xs (a + 1) -ℤ position_of xs a) ∷ l) (differ-force xs ds (a + 1) (suc n) (λ v h k. f v (omega arith) (omega arith)))

-- ---- the steps through the run's in pass 1
through : (r : Run) (ss ts : List Step) (ys : List ℤ) → times_placed ss r ≡ 0 → through_first r (ss ++ step_of 1 r ys ∷ ts) ≡ ss ++ step_of 1 r ys ∷ []
unfolding through_first times_placed
through r [] ts ys e = rw (eq-eqb r.level r.level refl, eq-eqb r.ordinal r.ordinal refl)
through r (s ∷ ss) ts ys e = ap (λ l. s ∷ l) (go (places r s) (eqb s.pass 1) e (λ f. through r ss ts ys f))
  where
    go : (t u : Bool) → cond t 1 0 + times_placed ss r ≡ 0 → (times_placed ss r ≡ 0 → through_first r (ss ++ step_of 1 r ys ∷ ts) ≡ ss ++ step_of 1 r ys ∷ [])
        → cond (u && t) [] (through_first r (ss ++ step_of 1 r ys ∷ ts)) ≡ ss ++ step_of 1 r ys ∷ []
    go true u e f = absurd (omega arith)
    go false true e f = f (omega arith)
    go false false e f = f (omega arith)

-- ---- at a run's first visit, and at its second
module _ {p : PlanData} (so : Sound p) (pre : Preliminary p) {r : Run} (i : IsRun p r) {past : List Visit} (js : ToRuns p past) where
  at-start : (v : ℕ) → i.low ≤ v → suc v < i.high → get_or (start p).apart v 0 ≡ doubled p v (suc v)
  unfolding start_at
  at-start v h k = start-apart p v (side-of i v h k)

  pub first-apart : All (Other r) past → (v : ℕ) → i.low ≤ v → suc v < i.high → get_or (visit_all p past (start p)).apart v 0 ≡ doubled p v (suc v)
  first-apart os v h k = pairs-kept i v (start p) h (omega (arith, (bounds i).right1)) js os ∙ at-start v h k

  pub bounded-apart : is_bounded r ≡ true → (v : ℕ) → i.low ≤ v → suc v < i.high → get_or (visit_all p past (start p)).apart v 0 ≡ doubled p v (suc v)
  bounded-apart b v h k = bounded-visits i b v h k (start p) js ∙ at-start v h k

  module _ (b : is_bounded r ≡ false) (t : Twice p r past) where
    parts : ToRuns p (t.earlier ++ visit_of 1 r ∷ t.since)
    parts = subst (ToRuns p) t.is js

    pub earlier-runs : ToRuns p t.earlier
    earlier-runs = all_left t.earlier (visit_of 1 r ∷ t.since) parts

    pub since-runs : ToRuns p t.since
    since-runs = all_tail (all_right t.earlier (visit_of 1 r ∷ t.since) parts)

    -- the states before and after the run's placing in pass 1
    abbrev pub before1 : State
    before1 = visit_all p t.earlier (start p)

    abbrev pub after1 : State
    after1 = after 1 r (placed p 1 before1 r) before1

    pub reached1 : Reached p before1
    reached1 = reached-all so (reached-start so pre) earlier-runs

    visit1 : visit p 1 r before1 ≡ after1
    unfolding visit
    visit1 = ap (λ u. cond u after1 before1) (due-open p 1 before1 r b)

    pub reached-after1 : Reached p after1
    reached-after1 = subst (Reached p) visit1 (reached-visit so reached1 1 i)

    pub past_is : visit_all p past (start p) ≡ visit_all p t.since after1
    unfolding visit_all
    past_is = ap (λ ws. visit_all p ws (start p)) t.is ∙ visit-append p t.earlier (visit_of 1 r ∷ t.since) (start p) ∙ ap (visit_all p t.since) visit1

    pub after1-is : visit_all p (t.earlier ++ visit_of 1 r ∷ []) (start p) ≡ after1
    unfolding visit_all
    after1-is = visit-append p t.earlier (visit_of 1 r ∷ []) (start p) ∙ visit1

    taken1 : (v : ℕ) → i.low ≤ v → suc v < i.high → get_or after1.apart v 0 ≡ P (position_of after1.at (suc v) -ℤ position_of after1.at v)
    unfolding after
    taken1 v h k = rw (b, members-are i)
        (take_in (put r.boxes (placed p 1 before1 r) before1.at) i.low (i.high - i.low) before1.apart v h (omega arith) (omega (arith, reached1.inv.apart_length, so.total, (bounds i).all)))

    pub second-apart : (v : ℕ) → i.low ≤ v → suc v < i.high → get_or (visit_all p past (start p)).apart v 0 ≡ P (position_of after1.at (suc v) -ℤ position_of after1.at v)
    second-apart v h k = ap (λ (s : State). get_or s.apart v 0) past_is ∙ pairs-kept i v after1 h (omega (arith, (bounds i).right1)) since-runs t.none_since ∙ taken1 v h k

    -- the words read the same off any longer trace
    none1 : times_placed before1.trace r ≡ 0
    unfolding start_at times_placed
    none1 = visits-other p r (start p) t.none_earlier

    pub took-on : (ts : List Step) → replay p (through_first r ((visit_all p past (start p)).trace ++ ts)) (preliminary p) ≡ after1.at
    unfolding after
    took-on ts = let ys = placed p 1 before1 r in let g = grown-all p t.since after1 in
        let e : (visit_all p past (start p)).trace ++ ts ≡ before1.trace ++ step_of 1 r ys ∷ (g.more ++ ts) =
        ap (λ (s : State). s.trace ++ ts) past_is ∙ ap (λ (l : List Step). l ++ ts) g.is ∙ append_assoc after1.trace g.more ts ∙ append_assoc before1.trace (step_of 1 r ys ∷ []) (g.more ++ ts) in
        ap (λ l. replay p (through_first r l) (preliminary p)) e ∙ ap (λ l. replay p l (preliminary p)) (through r before1.trace (g.more ++ ts) ys none1) ∙ sym reached-after1.replayed

-- ---- when the run of a moment is placed
module _ {p : PlanData} (so : Sound p) (pre : Preliminary p) {n : ℕ} (m : Moment p (schedule p) (start p) n) where
  distances-of : (trace : List Step) (s : Step) (r : Run) → run_of p s ≡ r
      → distances_then p trace s ≡ cond (is_open r && eqb s.pass 2) (differences (replay p (through_first r trace) (preliminary p)) (members r)) (doubled_between p (members r))
  unfolding distances_then
  distances-of trace s r e = ap (λ (o : Run). cond (is_open o && eqb s.pass 2) (differences (replay p (through_first o trace) (preliminary p)) (members o)) (doubled_between p (members o))) e

  doubled-members : {r : Run} (i : IsRun p r) (ds : List ℕ) → ((v : ℕ) → i.low ≤ v → suc v < i.high → get_or ds v 0 ≡ doubled p v (suc v)) → in_force ds (members r) ≡ doubled_between p (members r)
  doubled-members i ds f = rw (members-are i) (doubled-force p ds i.low (i.high - i.low) (λ v h k. f v h (omega arith)))

  differ-members : {r : Run} (i : IsRun p r) (xs : List ℤ) (ds : List ℕ) → ((v : ℕ) → i.low ≤ v → suc v < i.high → get_or ds v 0 ≡ P (position_of xs (suc v) -ℤ position_of xs v))
      → in_force ds (members r) ≡ differences xs (members r)
  differ-members i xs ds f = rw (members-are i) (differ-force xs ds i.low (i.high - i.low) (λ v h k. f v h (omega arith)))

  pub force-then : distances_then p (trace_of p) (step m) ≡ in_force (then m).apart (members m.visit.run)
  force-then = distances-of (trace_of p) (step m) m.visit.run (visit-run so pre m).told ∙ go (is_bounded m.visit.run) refl
    where
      i : IsRun p m.visit.run
      i = visit-run so pre m

      js : ToRuns p m.past
      js = past-runs so pre m

      unbounded : is_bounded m.visit.run ≡ false → Where p m.visit.run m.past m.visit
          → cond (eqb m.visit.pass 2) (differences (replay p (through_first m.visit.run (trace_of p)) (preliminary p)) (members m.visit.run)) (doubled_between p (members m.visit.run))
          ≡ in_force (then m).apart (members m.visit.run)
      unbounded b (at_first e os) = let z : m.visit.pass ≡ 1 = ap (λ (w : Visit). w.pass) e in rw z (sym (doubled-members i (then m).apart (first-apart so pre i js os)))
      unbounded b (at_second e t) = let z : m.visit.pass ≡ 2 = ap (λ (w : Visit). w.pass) e in let ts = step m ∷ (grown-all p m.coming (next m)).more in
          rw z (ap (λ l. differences (replay p (through_first m.visit.run l) (preliminary p)) (members m.visit.run)) (final-trace p ∙ trace-is m)
          ∙ ap (λ xs. differences xs (members m.visit.run)) (took-on so pre i js b t ts) ∙ sym (differ-members i (after1 so pre i js b t).at (then m).apart (second-apart so pre i js b t)))
      unbounded b (at-third e) = no_true (sym (due-open p m.visit.pass (then m) m.visit.run b ∙ ap (λ k. not (eqb k 3)) e) ∙ m.due)

      go : (t : Bool) → is_bounded m.visit.run ≡ t
          → cond (not t && eqb m.visit.pass 2) (differences (replay p (through_first m.visit.run (trace_of p)) (preliminary p)) (members m.visit.run)) (doubled_between p (members m.visit.run))
          ≡ in_force (then m).apart (members m.visit.run)
      go true b = sym (doubled-members i (then m).apart (bounded-apart so pre i js b))
      go false b = unbounded b (where-is i m.visit refl m.past m.coming m.is)
