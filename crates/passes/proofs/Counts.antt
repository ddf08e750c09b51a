-- How often each run is placed: an open run in passes 1 and 2; a bounded run with slack once, since placing settles it and pass 3 takes
-- the rest; without slack never. Slack never changes, since vias never move. Assumes nothing.
use mathlib.Core.Path.{◌≡◌, refl, ◌∙◌, ap}
use mathlib.Core.Bool.{Bool, true, false, cond, not, ◌||◌}
use mathlib.Core.List.{List, [], ◌∷◌, ◌++◌}
use mathlib.Core.Option.{Option, none, some}
use Prim.Native.Nat.{ℕ, ◌+◌, ◌≤◌}
use native.Mathlib.Omega.{arith}
use lib.Dec.{eqb}
use borrow.Author.Tests.{eq-eqb}
use lib.IntN.{ℤ}
use Rattle.ints.proofs.Laws.{if-ind}
use Rattle.plan.specs.Plan.{PlanData}
use Rattle.plan.specs.Checks.{any}
use Rattle.preliminary.specs.Positions.{preliminary}
use Rattle.passes.specs.Runs.{Run, is_bounded, members}
use Rattle.passes.specs.State.{Step, State, position_of}
use Rattle.passes.specs.Ready.{doubled_span, exactly_apart, has_no_slack, places, is_settled, is_ready}
use Rattle.passes.specs.Passes.{placed, after, is_due, visit}
use Rattle.passes.specs.Words.{times_placed}
use Rattle.plan.proofs.All.{All, all_nil, all_cons}
use Rattle.passes.specs.inner.Runs.{IsRun}
use Rattle.passes.proofs.RunsOn.{left-via, right-via}
use Rattle.passes.specs.inner.Schedule.{Visit, visit_of, visit_all}
use Rattle.passes.proofs.Schedule.{visit-append, Other, Once}
use Rattle.passes.proofs.Trace.{step_of, Reached}

-- ---- counting
pub times-append : (ss ts : List Step) (r : Run) → times_placed (ss ++ ts) r ≡ times_placed ss r + times_placed ts r
unfolding times_placed
times-append [] ts r = omega arith
times-append (s ∷ ss) ts r = omega (arith, times-append ss ts r)

pub any_none : (ss : List Step) (r : Run) → times_placed ss r ≡ 0 → any (places r) ss ≡ false
unfolding times_placed any
any_none [] r e = refl
any_none (s ∷ ss) r e = go (places r s) e (λ f. any_none ss r f)
  where
    go : (t : Bool) → cond t 1 0 + times_placed ss r ≡ 0 → (times_placed ss r ≡ 0 → any (places r) ss ≡ false) → cond t true (any (places r) ss) ≡ false
    go true e f = absurd (omega arith)
    go false e f = f (omega arith)

pub any_some : (ss : List Step) (r : Run) → 1 ≤ times_placed ss r → any (places r) ss ≡ true
unfolding times_placed any
any_some [] r e = absurd (omega arith)
any_some (s ∷ ss) r e = go (places r s) e (λ f. any_some ss r f)
  where
    go : (t : Bool) → 1 ≤ cond t 1 0 + times_placed ss r → (1 ≤ times_placed ss r → any (places r) ss ≡ true) → cond t true (any (places r) ss) ≡ true
    go true e f = refl
    go false e f = f (omega arith)

abbrev pub times : Run → State → ℕ
times r s = times_placed s.trace r

own : (q : ℕ) (r : Run) (ys : List ℤ) → times_placed (step_of q r ys ∷ []) r ≡ 1
unfolding times_placed
own q r ys = rw (eq-eqb r.level r.level refl, eq-eqb r.ordinal r.ordinal refl)

other : (w : Visit) (r : Run) (ys : List ℤ) → Other r w → times_placed (step_of w.pass w.run ys ∷ []) r ≡ 0
unfolding times_placed
other w r ys e = rw e

-- a visit to the run counts if it is due, others do not count
pub visit-own : (p : PlanData) (q : ℕ) (r : Run) (s : State) → times r (visit p q r s) ≡ times r s + cond (is_due p q s r) 1 0
unfolding visit after
visit-own p q r s = go (is_due p q s r)
  where
    go : (t : Bool) → times r (cond t (after q r (placed p q s r) s) s) ≡ times r s + cond t 1 0
    go true = omega (arith, times-append s.trace (step_of q r (placed p q s r) ∷ []) r, own q r (placed p q s r))
    go false = omega arith

visit-other : (p : PlanData) (w : Visit) (r : Run) (s : State) → Other r w → times r (visit p w.pass w.run s) ≡ times r s
unfolding visit after
visit-other p w r s e = if-ind (is_due p w.pass s w.run) (after w.pass w.run (placed p w.pass s w.run) s) s (λ t. times r t ≡ times r s)
    (λ t. omega (arith, times-append s.trace (step_of w.pass w.run (placed p w.pass s w.run) ∷ []) r, other w r (placed p w.pass s w.run) e)) (λ t. refl)

pub visits-other : (p : PlanData) (r : Run) {ws : List Visit} (s : State) → All (Other r) ws → times r (visit_all p ws s) ≡ times r s
unfolding visit_all
visits-other p r s all_nil = refl
visits-other p r s (all_cons {x = w} o os) = visits-other p r (visit p w.pass w.run s) os ∙ visit-other p w r s o

-- ---- one pass
module _ (p : PlanData) {q : ℕ} {r : Run} {vs : List Visit} (o : Once q r vs) (s : State) where
  -- the state in which the run is visited
  abbrev pub met : State
  met = visit_all p o.before s

  pub times-met : times r met ≡ times r s
  times-met = visits-other p r s o.none_before

  pub times-pass : times r (visit_all p vs s) ≡ times r s + cond (is_due p q met r) 1 0
  unfolding visit_all
  times-pass = ap (λ ws. times r (visit_all p ws s)) o.is ∙ ap (times r) (visit-append p o.before (visit_of q r ∷ o.after) s)
      ∙ visits-other p r (visit p q r met) o.none_after ∙ visit-own p q r met ∙ ap (λ n. n + cond (is_due p q met r) 1 0) times-met

-- ---- slack
same-slack : (xs ys : List ℤ) (d : ℕ) (a b : Option ℕ) → ((v : ℕ) → a ≡ some v → position_of xs v ≡ position_of ys v) → ((v : ℕ) → b ≡ some v → position_of xs v ≡ position_of ys v)
    → exactly_apart xs d a b ≡ exactly_apart ys d a b
same-slack xs ys d none b f g = refl
same-slack xs ys d (some v) none f g = refl
same-slack xs ys d (some v) (some w) f g = rw (f v refl, g w refl)

pub slack-still : {p : PlanData} {s : State} → Reached p s → {r : Run} → IsRun p r → has_no_slack p s.at r ≡ has_no_slack p (preliminary p) r
unfolding has_no_slack
slack-still {p} {s} c {r} i = same-slack s.at (preliminary p) (doubled_span p (members r)) r.left r.right
    (λ v e. c.vias v (left-via i v e)) (λ v e. c.vias v (right-via i v e))

-- ---- when a run is due
pub due-open : (p : PlanData) (q : ℕ) (s : State) (r : Run) → is_bounded r ≡ false → is_due p q s r ≡ not (eqb q 3)
unfolding is_due
due-open p q s r e = rw e

pub due-settled : (p : PlanData) (q : ℕ) (s : State) (r : Run) → is_bounded r ≡ true → is_settled p s r ≡ true → is_due p q s r ≡ false
unfolding is_due
due-settled p q s r e f = rw (e, f)

pub due-unsettled : (p : PlanData) (q : ℕ) (s : State) (r : Run) → is_bounded r ≡ true → is_settled p s r ≡ false → is_due p q s r ≡ eqb q 3 || is_ready p q s r
unfolding is_due
due-unsettled p q s r e f = rw (e, f)

or-true : (s t : Bool) → t ≡ true → s || t ≡ true
or-true true t e = refl
or-true false t e = e

pub settled-slack : (p : PlanData) (s : State) (r : Run) → has_no_slack p s.at r ≡ true → is_settled p s r ≡ true
unfolding is_settled
settled-slack p s r e = rw e

pub settled-placed : (p : PlanData) (s : State) (r : Run) → 1 ≤ times r s → is_settled p s r ≡ true
unfolding is_settled
settled-placed p s r h = or-true (has_no_slack p s.at r) _ (any_some s.trace r h)

pub unsettled : (p : PlanData) (s : State) (r : Run) → has_no_slack p s.at r ≡ false → times r s ≡ 0 → is_settled p s r ≡ false
unfolding is_settled
unsettled p s r e f = rw (e, any_none s.trace r f)
