-- What a visit does to the marks: one that is not due changes nothing, placing an open run leaves every bounded run as it was,
-- placing a bounded run settles that run and no other. Assumes nothing.
use Prim.Native.Nat.{ℕ, ◌<◌}
use mathlib.Core.Path.{◌≡◌, refl, sym, ◌∙◌, ap, subst}
use mathlib.Core.Bool.{Bool, true, false, cond, not, ◌||◌}
use mathlib.Core.List.{List, [], ◌∷◌, ◌++◌, append_assoc}
use mathlib.Core.Logic.{◌⊎◌, inl, inr}
use mathlib.Core.Option.{some}
use native.Mathlib.Omega.{arith}
use borrow.Author.Tests.{eq-eqb}
use lib.ListN.{length, get_or, set}
use lib.Seq.{get_or-set_same, get_or-set_other}
use lib.IntN.{ℤ}
use Rattle.ints.proofs.Laws.{if-ind}
use Rattle.plan.specs.Plan.{PlanData}
use Rattle.plan.specs.Checks.{any}
use Rattle.plan.proofs.CountLaws.{by-same}
use Rattle.passes.specs.Runs.{Run, is_bounded}
use Rattle.passes.specs.State.{State}
use Rattle.passes.specs.Ready.{has_no_slack, places, is_settled}
use Rattle.passes.specs.Passes.{placed, after, is_due, visit}
use Rattle.plan.proofs.All.{all_left, all_right, all_head, no_true}
use Rattle.passes.proofs.Sound.{Sound, sound}
use Rattle.passes.proofs.Kept.{kept}
use Rattle.passes.specs.inner.Runs.{IsRun}
use Rattle.passes.proofs.RunsOn.{bounds}
use Rattle.passes.proofs.Edges.{left_at}
use Rattle.passes.proofs.Schedule.{ToRuns, visit-append, schedule-runs, Differ}
use Rattle.passes.specs.inner.Schedule.{Visit, visit_all, schedule, start}
use Rattle.passes.proofs.Trace.{step_of, Reached, reached-visit, reached-all, reached-start}
use Rattle.passes.proofs.Counts.{slack-still, settled-placed, visit-own}
use Rattle.passes.proofs.Distances.{same-or-other}
use Rattle.pass_tables.specs.inner.Moments.{state_after, Held, BoundedAt, Unsettled}
use Rattle.pass_tables.proofs.RunEnds.{same_some, left-on, one_right}

pub itself : (r : Run) → Differ r r → ⊥
itself r o = no_true (sym o ∙ rw (eq-eqb r.level r.level refl, eq-eqb r.ordinal r.ordinal refl))

-- ---- one more step
any-past : {A : Type 0} (t : A → Bool) (xs : List A) (x : A) → t x ≡ false → any t (xs ++ x ∷ []) ≡ any t xs
unfolding any
any-past t [] x e = rw e
any-past t (y ∷ ys) x e = ap (λ (b : Bool). cond (t y) true b) (any-past t ys x e)

-- ---- a visit to another run
trace-other : (p : PlanData) (w : Visit) (s : State) (r : Run) → Differ r w.run → any (places r) (visit p w.pass w.run s).trace ≡ any (places r) s.trace
unfolding visit after
trace-other p w s r o = if-ind (is_due p w.pass s w.run) (after w.pass w.run (placed p w.pass s w.run) s) s (λ (t : State). any (places r) t.trace ≡ any (places r) s.trace)
    (λ t. any-past (places r) s.trace (step_of w.pass w.run (placed p w.pass s w.run)) o) (λ t. refl)

pub settled-other : {p : PlanData} → Sound p → {s : State} → Reached p s → (w : Visit) → IsRun p w.run → {r : Run} → IsRun p r → Differ r w.run
    → is_settled p (visit p w.pass w.run s) r ≡ is_settled p s r
unfolding is_settled
settled-other {p} so {s} c w j {r} i o =
    let next = visit p w.pass w.run s in
    let slack : has_no_slack p next.at r ≡ has_no_slack p s.at r = slack-still (reached-visit so c w.pass j) i ∙ sym (slack-still c i) in
    ap (λ (b : Bool). b || any (places r) next.trace) slack ∙ ap (λ (b : Bool). has_no_slack p s.at r || b) (trace-other p w s r o)

-- ---- the next visit
module _ {p : PlanData} {past : List Visit} {w : Visit} {coming : List Visit} {at : List ℤ} {apart : List ℕ} {marks : List Bool} (h : Held p past (w ∷ coming) at apart marks) where
  so : Sound p
  so = sound p h.ok

  all_runs : ToRuns p (past ++ w ∷ coming)
  all_runs = subst (ToRuns p) h.whole (schedule-runs p)

  pub held-run : IsRun p w.run
  held-run = all_head (all_right past (w ∷ coming) all_runs)

  pub held-reached : Reached p (state_after p past)
  held-reached = reached-all so (reached-start so (kept p h.ok)) (all_left past (w ∷ coming) all_runs)

  pub next-state : state_after p (past ++ w ∷ []) ≡ visit p w.pass w.run (state_after p past)
  unfolding visit_all
  next-state = visit-append p past (w ∷ []) (start p)

  pub whole-next : schedule p ≡ (past ++ w ∷ []) ++ coming
  whole-next = h.whole ∙ sym (append_assoc past (w ∷ []) coming)

  -- it is not due
  pub not-due-still : is_due p w.pass (state_after p past) w.run ≡ false → state_after p (past ++ w ∷ []) ≡ state_after p past
  unfolding visit
  not-due-still e = next-state ∙ ap (λ (t : Bool). cond t (after w.pass w.run (placed p w.pass (state_after p past) w.run) (state_after p past)) (state_after p past)) e

  pub held-skipped : is_due p w.pass (state_after p past) w.run ≡ false → Held p (past ++ w ∷ []) coming at apart marks
  held-skipped e = let still = sym (not-due-still e) in record {
    ok = h.ok;
    whole = whole-next;
    places = h.places ∙ ap (λ (s : State). s.at) still;
    distances = h.distances ∙ ap (λ (s : State). s.apart) still;
    long = h.long;
    unsettled = subst (λ (s : State). Unsettled p s marks) still h.unsettled;
  }

  abbrev next : State
  next = visit p w.pass w.run (state_after p past)

  -- placing an open run
  pub open_kept : is_bounded w.run ≡ false → Unsettled p (state_after p (past ++ w ∷ [])) marks
  open_kept e = rw next-state (record { each = each; only = h.unsettled.only })
    where
      each : (r : Run) → IsRun p r → (a b : ℕ) → r.left ≡ some a → r.right ≡ some b → get_or marks a false ≡ not (is_settled p next r)
      each r i a b f g = h.unsettled.each r i a b f g ∙ ap not (sym (go (same-or-other i held-run)))
        where
          go : (w.run ≡ r) ⊎ Differ r w.run → is_settled p next r ≡ is_settled p (state_after p past) r
          go (inl q) = let bounded : is_bounded r ≡ true = rw (f, g) in no_true (sym e ∙ ap is_bounded q ∙ bounded)
          go (inr o) = settled-other so held-reached w held-run i o

  -- placing the bounded run on the right of via a
  pub bounded-settled : is_due p w.pass (state_after p past) w.run ≡ true → (a : ℕ) → w.run.left ≡ some a → Unsettled p (state_after p (past ++ w ∷ [])) (set marks a false)
  bounded-settled e a l = rw next-state (record { each = each; only = only })
    where
      inside : a < length marks
      inside = let b = bounds held-run in let z = left_at a held-run.begins l in omega (arith, h.long, so.total, left-on held-run a l)

      unmarked : get_or (set marks a false) a false ≡ false
      unmarked = get_or-set_same marks a false false inside

      once : is_settled p next w.run ≡ true
      once = settled-placed p next w.run (omega (arith, visit-own p w.pass w.run (state_after p past), ap (λ (t : Bool). cond {A = ℕ} t 1 0) e))

      each : (r : Run) → IsRun p r → (v b : ℕ) → r.left ≡ some v → r.right ≡ some b → get_or (set marks a false) v false ≡ not (is_settled p next r)
      each r i v b f g = go (same-or-other i held-run)
        where
          go : (w.run ≡ r) ⊎ Differ r w.run → get_or (set marks a false) v false ≡ not (is_settled p next r)
          go (inl q) = ap (λ (u : ℕ). get_or (set marks a false) u false) (same_some v a (sym f ∙ ap (λ (x : Run). x.left) (sym q) ∙ l)) ∙ unmarked ∙ ap not (sym (ap (is_settled p next) (sym q) ∙ once))
          go (inr o) = get_or-set_other marks a v false false (λ z. itself r (subst (Differ r) (one_right held-run i a l (f ∙ ap some z)) o))
              ∙ h.unsettled.each r i v b f g ∙ ap not (sym (settled-other so held-reached w held-run i o))

      only : (v : ℕ) → get_or (set marks a false) v false ≡ true → BoundedAt p v
      only v f = by-same v a
          (λ z. no_true (sym unmarked ∙ ap (λ (u : ℕ). get_or (set marks a false) u false) (sym z) ∙ f))
          (λ z. h.unsettled.only v (sym (get_or-set_other marks a v false false z) ∙ f))
