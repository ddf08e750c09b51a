-- Every run is placed as often as demand 3 says. Assumes nothing.
use mathlib.Core.Path.{◌≡◌, refl, ◌∙◌, ap, subst}
use mathlib.Core.Bool.{Bool, true, false, cond}
use mathlib.Core.List.{List, ◌∷◌, ◌++◌}
use Prim.Native.Nat.{ℕ, ◌+◌, ◌≤◌}
use native.Mathlib.Omega.{arith}
use lib.Dec.{eqb}
use borrow.Author.Tests.{eq-eqb}
use Rattle.ints.proofs.Laws.{if-ind, cases}
use Rattle.plan.specs.Plan.{PlanData}
use Rattle.preliminary.specs.Positions.{preliminary}
use Rattle.passes.specs.Runs.{Run, is_bounded, runs_of_levels, runs_of}
use Rattle.passes.specs.State.{State, start_at}
use Rattle.passes.specs.Ready.{has_no_slack}
use Rattle.passes.specs.Passes.{is_due}
use Rattle.passes.specs.Drawing.{trace_of}
use Rattle.passes.specs.Words.{times_placed, times_due, placed_as_due}
use Rattle.plan.proofs.All.{All, all_nil, all_cons, all_map, all_append, all_left, all-every}
use Rattle.plan.proofs.Levels.{all-numbers}
use Rattle.passes.proofs.Sound.{Sound}
use Rattle.passes.specs.inner.Runs.{IsRun}
use Rattle.passes.proofs.RunsOn.{runs-are}
use Rattle.passes.proofs.Schedule.{ToRuns, visit-append, Once, IsVisit, first-visits, second-visits, third-visits, once-first, once-second, once-third}
use Rattle.passes.specs.inner.Schedule.{Visit, visit_of, visit_all, first_pass, second_pass, third_pass, start}
use Rattle.passes.proofs.Trace.{Reached, reached-all, reached-start}
use Rattle.passes.proofs.Moments.{final, final-trace}
use Rattle.passes.proofs.Counts.{times, met, times-met, times-pass, slack-still, due-open, due-settled, due-unsettled, settled-slack, settled-placed, unsettled}
use Rattle.passes.proofs.Preliminary.{Preliminary}

-- ---- the states between the passes
abbrev pub after_first : PlanData → State
after_first p = visit_all p (first_pass p) (start p)

abbrev pub after_second : PlanData → State
after_second p = visit_all p (second_pass p) (after_first p)

pub final-third : (p : PlanData) → final p ≡ visit_all p (third_pass p) (after_second p)
final-third p = visit-append p (first_pass p ++ second_pass p) (third_pass p) (start p) ∙ ap (visit_all p (third_pass p)) (visit-append p (first_pass p) (second_pass p) (start p))

pub visit-runs : {p : PlanData} {q : ℕ} {ws : List Visit} → All (IsVisit p q) ws → ToRuns p ws
visit-runs a = all_map (λ w i. i.run) a

-- ---- a bounded run with slack, in one pass
module _ {p : PlanData} (so : Sound p) {r : Run} (i : IsRun p r) (b : is_bounded r ≡ true) {q : ℕ} {vs : List Visit} (o : Once q r vs) (a : All (IsVisit p q) vs) {s : State} (c : Reached p s) where
  pub reached-met : Reached p (met p o s)
  reached-met = reached-all so c (all_left o.before (visit_of q r ∷ o.after) (subst (ToRuns p) o.is (visit-runs a)))

  slack-met : has_no_slack p (met p o s).at r ≡ has_no_slack p (preliminary p) r
  slack-met = slack-still reached-met i

  pub no-slack-pass : has_no_slack p (preliminary p) r ≡ true → times r (visit_all p vs s) ≡ times r s
  no-slack-pass e = times-pass p o s ∙ ap (λ t. times r s + cond t 1 0) (due-settled p q (met p o s) r b (settled-slack p (met p o s) r (slack-met ∙ e))) ∙ omega arith

  placed-pass : 1 ≤ times r s → times r (visit_all p vs s) ≡ times r s
  placed-pass h = let e = times-met p o s in
      times-pass p o s ∙ ap (λ t. times r s + cond t 1 0) (due-settled p q (met p o s) r b (settled-placed p (met p o s) r (omega arith))) ∙ omega arith

  pub once-at-most : times r s ≤ 1 → times r (visit_all p vs s) ≤ 1
  once-at-most h = cases 1 (times r s) (λ k. omega (arith, placed-pass k))
      (λ k. if-ind (is_due p q (met p o s) r) 1 0 (λ n. times r (visit_all p vs s) ≡ times r s + n → times r (visit_all p vs s) ≤ 1) (λ t e. omega arith) (λ t e. omega arith) (times-pass p o s))

  pub once-third-pass : q ≡ 3 → has_no_slack p (preliminary p) r ≡ false → times r s ≤ 1 → times r (visit_all p vs s) ≡ 1
  once-third-pass e f h = cases 1 (times r s) (λ k. omega (arith, placed-pass k))
      (λ k. let z : times r (met p o s) ≡ 0 = omega (arith, times-met p o s) in
      let d = due-unsettled p q (met p o s) r b (unsettled p (met p o s) r (slack-met ∙ f) z) in
      let g : is_due p q (met p o s) r ≡ true = d ∙ rw (eq-eqb q 3 e) in
      omega (arith, times-pass p o s, ap (λ t. cond {A = ℕ} t 1 0) g))

-- ---- all three
module _ {p : PlanData} (so : Sound p) (pre : Preliminary p) {r : Run} (i : IsRun p r) where
  none_yet : times r (start p) ≡ 0
  unfolding start_at times_placed
  none_yet = refl

  reached-first : Reached p (after_first p)
  reached-first = reached-all so (reached-start so pre) (visit-runs (first-visits p))

  reached-second : Reached p (after_second p)
  reached-second = reached-all so reached-first (visit-runs (second-visits p))

  open_twice : is_bounded r ≡ false → times r (final p) ≡ 2
  open_twice e = let a = once-first p i in let b = once-second p i in let c = once-third p i in
      ap (times r) (final-third p) ∙ omega (
        arith,
        none_yet,
        times-pass p a (start p),
        times-pass p b (after_first p),
        times-pass p c (after_second p),
        ap (λ t. cond {A = ℕ} t 1 0) (due-open p 1 (met p a (start p)) r e),
        ap (λ t. cond {A = ℕ} t 1 0) (due-open p 2 (met p b (after_first p)) r e),
        ap (λ t. cond {A = ℕ} t 1 0) (due-open p 3 (met p c (after_second p)) r e),
      )

  bounded-never : is_bounded r ≡ true → has_no_slack p (preliminary p) r ≡ true → times r (final p) ≡ 0
  bounded-never b e = ap (times r) (final-third p) ∙ no-slack-pass so i b (once-third p i) (third-visits p) reached-second e
      ∙ no-slack-pass so i b (once-second p i) (second-visits p) reached-first e ∙ no-slack-pass so i b (once-first p i) (first-visits p) (reached-start so pre) e ∙ none_yet

  bounded-once : is_bounded r ≡ true → has_no_slack p (preliminary p) r ≡ false → times r (final p) ≡ 1
  bounded-once b e = ap (times r) (final-third p) ∙ once-third-pass so i b (once-third p i) (third-visits p) reached-second refl e
      (once-at-most so i b (once-second p i) (second-visits p) reached-first (once-at-most so i b (once-first p i) (first-visits p) (reached-start so pre) (omega (arith, none_yet))))

  pub times-due : times r (final p) ≡ times_due p (preliminary p) r
  unfolding times_due
  times-due = go (is_bounded r) refl (has_no_slack p (preliminary p) r) refl
    where
      go : (t : Bool) → is_bounded r ≡ t → (u : Bool) → has_no_slack p (preliminary p) r ≡ u → times r (final p) ≡ cond t (cond u 0 1) 2
      go true e true f = bounded-never e f
      go true e false f = bounded-once e f
      go false e u f = open_twice e

-- ---- the runs of the plan
runs_of_lem : (p : PlanData) {ls : List ℕ} → All (λ l. (1 ≤ l) × (l ≤ p.levels)) ls → All (IsRun p) (runs_of_levels p ls)
unfolding runs_of_levels
runs_of_lem p all_nil = all_nil
runs_of_lem p (all_cons {x = l} h hs) = all_append (runs-are p l h.0 h.1) (runs_of_lem p hs)

pub plan-runs : (p : PlanData) → All (IsRun p) (runs_of p)
unfolding runs_of
plan-runs p = runs_of_lem p (all-numbers 1 p.levels (λ l h k. (h, omega arith)))

pub placed-as-due : {p : PlanData} → Sound p → Preliminary p → placed_as_due p (trace_of p) ≡ true
unfolding placed_as_due
placed-as-due {p} so pre = all-every (λ r. eqb (times_placed (trace_of p) r) (times_due p (preliminary p) r))
    (all_map (λ r i. eq-eqb _ _ (ap (λ ts. times_placed ts r) (final-trace p) ∙ times-due so pre i)) (plan-runs p))
