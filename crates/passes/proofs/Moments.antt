-- Each step of the trace is one visit, made in the state that the steps before it left. Assumes nothing.
use mathlib.Core.Path.{◌≡◌, refl, sym, ◌∙◌, ap, subst}
use mathlib.Core.Bool.{Bool, true, false, cond}
use mathlib.Core.List.{List, [], ◌∷◌, ◌++◌, append_assoc, append-nil}
use Prim.Native.Nat.{ℕ, suc, ◌≤◌, ◌<◌}
use native.Mathlib.Omega.{arith}
use lib.ListN.{length, get_or, take, length-append}
use lib.Seq.{take_at, get_or_at}
use Rattle.ints.proofs.Laws.{cases, if-ind}
use Rattle.plan.specs.Plan.{PlanData}
use Rattle.preliminary.specs.Positions.{preliminary}
use Rattle.passes.specs.Runs.{Run}
use Rattle.passes.specs.State.{Step, State, start_at}
use Rattle.passes.specs.Passes.{placed, after, is_due, visit}
use Rattle.passes.specs.Drawing.{final_state, trace_of, Drawing, drawing_of, listed}
use Rattle.passes.specs.Words.{run_of, replay, before, finished, no_step, step_at}
use Rattle.plan.proofs.All.{all_left, all_right, all_head}
use Rattle.passes.proofs.Sound.{Sound}
use Rattle.passes.specs.inner.Runs.{IsRun}
use Rattle.passes.proofs.Schedule.{ToRuns, visit-append, schedule-runs, three-is}
use Rattle.passes.specs.inner.Schedule.{Visit, visit_all, schedule, start}
use Rattle.passes.proofs.Preliminary.{Preliminary}
use Rattle.passes.proofs.Trace.{step_of, Reached, reached-all, reached-start}

-- ---- the trace only grows
pub record Grown (s s' : State) : Type 0 where
  pub more : List Step
  pub is : s'.trace ≡ s.trace ++ more

pub grown-visit : (p : PlanData) (q : ℕ) (r : Run) (s : State) → Grown s (visit p q r s)
unfolding visit after
grown-visit p q r s = if-ind (is_due p q s r) (after q r (placed p q s r) s) s (Grown s)
    (λ t. record { more = step_of q r (placed p q s r) ∷ []; is = refl }) (λ t. record { more = []; is = sym (append-nil s.trace) })

grown-trans : {s t u : State} → Grown s t → Grown t u → Grown s u
grown-trans {s} a b = record { more = a.more ++ b.more; is = b.is ∙ ap (λ ts. ts ++ b.more) a.is ∙ append_assoc s.trace a.more b.more }

pub grown-all : (p : PlanData) (ws : List Visit) (s : State) → Grown s (visit_all p ws s)
unfolding visit_all
grown-all p [] s = record { more = []; is = sym (append-nil s.trace) }
grown-all p (w ∷ ws) s = grown-trans (grown-visit p w.pass w.run s) (grown-all p ws (visit p w.pass w.run s))

-- ---- the visit that makes the i-th step
pub record Moment (p : PlanData) (ws : List Visit) (s : State) (i : ℕ) : Type 0 where
  pub past : List Visit
  pub visit : Visit
  pub coming : List Visit
  pub is : ws ≡ past ++ visit ∷ coming
  pub due : is_due p visit.pass (visit_all p past s) visit.run ≡ true
  pub done : length (visit_all p past s).trace ≡ i

moment_more : {p : PlanData} {w : Visit} {ws : List Visit} {s : State} {i : ℕ} → Moment p ws (visit p w.pass w.run s) i → Moment p (w ∷ ws) s i
unfolding visit_all
moment_more {w} m = record { past = w ∷ m.past; visit = m.visit; coming = m.coming; is = ap (λ vs. w ∷ vs) m.is; due = m.due; done = m.done }

one_more : (p : PlanData) (w : Visit) (s : State) → length (visit p w.pass w.run s).trace ≤ suc (length s.trace)
unfolding visit after
one_more p w s = if-ind (is_due p w.pass s w.run) (after w.pass w.run (placed p w.pass s w.run) s) s (λ t. length t.trace ≤ suc (length s.trace))
    (λ t. omega (arith, length-append s.trace (step_of w.pass w.run (placed p w.pass s w.run) ∷ []))) (λ t. omega arith)

due-now : (p : PlanData) (w : Visit) (s : State) → length s.trace < length (visit p w.pass w.run s).trace → is_due p w.pass s w.run ≡ true
unfolding visit
due-now p w s h = go (is_due p w.pass s w.run) h
  where
    go : (t : Bool) → length s.trace < length (cond t (after w.pass w.run (placed p w.pass s w.run) s) s).trace → t ≡ true
    go true h = refl
    go false h = absurd (omega arith)

pub moment : (p : PlanData) (ws : List Visit) (s : State) (i : ℕ) → length s.trace ≤ i → i < length (visit_all p ws s).trace → Moment p ws s i
unfolding visit_all
moment p [] s i h k = absurd (omega arith)
moment p (w ∷ ws) s i h k = cases (length (visit p w.pass w.run s).trace) i (λ j. moment_more (moment p ws (visit p w.pass w.run s) i j k))
    (λ j. record { past = []; visit = w; coming = ws; is = refl; due = due-now p w s (omega arith); done = omega (arith, one_more p w s) })

-- ---- what a moment says of the trace
module _ {p : PlanData} {ws : List Visit} {s : State} {i : ℕ} (m : Moment p ws s i) where
  -- the state before the step
  abbrev pub then : State
  then = visit_all p m.past s

  abbrev pub step : Step
  step = step_of m.visit.pass m.visit.run (placed p m.visit.pass then m.visit.run)

  -- and after
  abbrev pub next : State
  next = after m.visit.pass m.visit.run (placed p m.visit.pass then m.visit.run) then

  pub final-is : visit_all p ws s ≡ visit_all p m.coming next
  unfolding visit_all visit
  final-is = ap (λ vs. visit_all p vs s) m.is ∙ visit-append p m.past (m.visit ∷ m.coming) s
      ∙ ap (λ t. visit_all p m.coming (cond t next then)) m.due

  pub trace-is : (visit_all p ws s).trace ≡ then.trace ++ step ∷ (grown-all p m.coming next).more
  unfolding after
  trace-is = ap (λ (t : State). t.trace) final-is ∙ (grown-all p m.coming next).is ∙ append_assoc then.trace (step ∷ []) (grown-all p m.coming next).more

  pub step_is : step_at (visit_all p ws s).trace i ≡ step
  step_is = ap (λ ts. get_or ts i no_step) trace-is ∙ get_or_at then.trace step (grown-all p m.coming next).more no_step i m.done

  pub steps-before : take i (visit_all p ws s).trace ≡ then.trace
  steps-before = ap (take i) trace-is ∙ take_at then.trace (step ∷ (grown-all p m.coming next).more) i m.done

-- ---- the whole drawing
abbrev pub final : PlanData → State
final p = visit_all p (schedule p) (start p)

pub final-trace : (p : PlanData) → trace_of p ≡ (final p).trace
unfolding trace_of final_state
final-trace p = ap (λ (t : State). t.trace) (three-is p (start p))

module _ {p : PlanData} (so : Sound p) (pre : Preliminary p) where
  pub reached-final : Reached p (final p)
  reached-final = reached-all so (reached-start so pre) (schedule-runs p)

  pub finished-is : finished p (trace_of p) ≡ (final p).at
  unfolding finished
  finished-is = ap (λ ts. replay p ts (preliminary p)) (final-trace p) ∙ sym reached-final.replayed

  module _ {i : ℕ} (m : Moment p (schedule p) (start p) i) where
    pub runs_of : ToRuns p (m.past ++ m.visit ∷ m.coming)
    runs_of = subst (ToRuns p) m.is (schedule-runs p)

    pub past-runs : ToRuns p m.past
    past-runs = all_left m.past (m.visit ∷ m.coming) runs_of

    pub visit-run : IsRun p m.visit.run
    visit-run = all_head (all_right m.past (m.visit ∷ m.coming) runs_of)

    pub reached_then : Reached p (then m)
    reached_then = reached-all so (reached-start so pre) past-runs

    pub before-is : before p (trace_of p) i ≡ (then m).at
    unfolding before
    before-is = ap (λ ts. replay p (take i ts) (preliminary p)) (final-trace p) ∙ ap (λ ts. replay p ts (preliminary p)) (steps-before m) ∙ sym reached_then.replayed

    pub run_is : run_of p (step m) ≡ m.visit.run
    run_is = visit-run.told

  pub moment-of : (i : ℕ) → i < length (trace_of p) → Moment p (schedule p) (start p) i
  unfolding start_at
  moment-of i h = moment p (schedule p) (start p) i (omega arith) (rw (final-trace p) at h)

-- the drawing, by the list of visits
unfoldable pub drawing : PlanData → Drawing
drawing p = record { preliminary = preliminary p; final = (final p).at; placings = listed p (final p).trace }

pub drawing-is : (p : PlanData) → drawing_of p ≡ drawing p
unfolding drawing_of drawing
drawing-is p = ap (λ (s : State). record { preliminary = preliminary p; final = s.at; placings = listed p s.trace }) (three-is p (start p))
