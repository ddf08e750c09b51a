-- The passes as one list of visits. Each run of the plan is visited exactly once in each of the three. Assumes nothing.
use mathlib.Core.Path.{◌≡◌, refl, sym, ◌∙◌, ap, subst}
use mathlib.Core.Bool.{Bool, true, false, ◌&&◌}
use mathlib.Core.List.{List, [], ◌∷◌, ◌++◌, map, reverse, append_assoc, reverse-append, reverse-cons}
use Prim.Native.Nat.{ℕ, zero, suc, ◌+◌, ◌-◌, ◌≤◌, ◌<◌}
use native.Mathlib.Omega.{arith}
use lib.Dec.{eqb}
use borrow.Author.Tests.{ne_eqb}
use lib.ListN.{length, get_or}
use Rattle.plan.specs.Plan.{PlanData, numbers}
use Rattle.plan.proofs.LevelLaws.{numbers-append}
use Rattle.passes.specs.Runs.{Run, runs_on, no_run, run_at}
use Rattle.passes.specs.State.{State}
use Rattle.passes.specs.Passes.{visit, visit_each, pass, three_passes}
use Rattle.plan.proofs.All.{All, all_nil, all_cons, all_map, all_append, all-reverse}
use Rattle.plan.proofs.Levels.{all-numbers}
use Rattle.passes.specs.inner.Runs.{IsRun}
use Rattle.passes.proofs.RunsOn.{run-level, runs-are}
use Rattle.passes.specs.inner.Schedule.{Visit, visit_of, visit_all, pass_visits, first_pass, second_pass, third_pass, schedule}

pub visit-append : (p : PlanData) (vs ws : List Visit) (s : State) → visit_all p (vs ++ ws) s ≡ visit_all p ws (visit_all p vs s)
unfolding visit_all
visit-append p [] ws s = refl
visit-append p (v ∷ vs) ws s = visit-append p vs ws (visit p v.pass v.run s)

each-is : (p : PlanData) (q : ℕ) (rs : List Run) (s : State) → visit_each p q rs s ≡ visit_all p (map (visit_of q) rs) s
unfolding visit_each visit_all
each-is p q [] s = refl
each-is p q (r ∷ rs) s = each-is p q rs (visit p q r s)

pass-is : (p : PlanData) (q : ℕ) (ls : List ℕ) (s : State) → pass p q ls s ≡ visit_all p (pass_visits p q ls) s
unfolding pass pass_visits visit_all
pass-is p q [] s = refl
pass-is p q (l ∷ ls) s = pass-is p q ls (visit_each p q (runs_on p l) s) ∙ ap (visit_all p (pass_visits p q ls)) (each-is p q (runs_on p l) s)
    ∙ sym (visit-append p (map (visit_of q) (runs_on p l)) (pass_visits p q ls) s)

pub three-is : (p : PlanData) (s : State) → three_passes p s ≡ visit_all p (schedule p) s
unfolding three_passes first_pass second_pass third_pass
three-is p s = let d = numbers 1 p.levels in let s1 = pass p 1 d s in
    pass-is p 3 d (pass p 2 (reverse d) s1) ∙ ap (visit_all p (third_pass p)) (pass-is p 2 (reverse d) s1 ∙ ap (visit_all p (second_pass p)) (pass-is p 1 d s))
    ∙ sym (visit-append p (first_pass p ++ second_pass p) (third_pass p) s ∙ ap (visit_all p (third_pass p)) (visit-append p (first_pass p) (second_pass p) s))

-- ---- each visit is to a run of the plan, in its pass
pub record IsVisit (p : PlanData) (q : ℕ) (w : Visit) : Type 0 where
  pub pass : w.pass ≡ q
  pub run : IsRun p w.run

visits-run : (p : PlanData) (q : ℕ) {rs : List Run} → All (IsRun p) rs → All (IsVisit p q) (map (visit_of q) rs)
visits-run p q all_nil = all_nil
visits-run p q (all_cons i «is») = all_cons (record { pass = refl; run = i }) (visits-run p q «is»)

pass-visits : (p : PlanData) (q : ℕ) {ls : List ℕ} → All (λ l. (1 ≤ l) × (l ≤ p.levels)) ls → All (IsVisit p q) (pass_visits p q ls)
unfolding pass_visits
pass-visits p q all_nil = all_nil
pass-visits p q (all_cons {x = l} i «is») = all_append (visits-run p q (runs-are p l i.0 i.1)) (pass-visits p q «is»)

levels-in : (p : PlanData) → All (λ l. (1 ≤ l) × (l ≤ p.levels)) (numbers 1 p.levels)
levels-in p = all-numbers 1 p.levels (λ w h k. (h, omega arith))

pub first-visits : (p : PlanData) → All (IsVisit p 1) (first_pass p)
unfolding first_pass
first-visits p = pass-visits p 1 (levels-in p)

pub second-visits : (p : PlanData) → All (IsVisit p 2) (second_pass p)
unfolding second_pass
second-visits p = pass-visits p 2 (all-reverse (numbers 1 p.levels) (levels-in p))

pub third-visits : (p : PlanData) → All (IsVisit p 3) (third_pass p)
unfolding third_pass
third-visits p = pass-visits p 3 (levels-in p)

abbrev pub ToRuns : PlanData → List Visit → Type 0
ToRuns p ws = All (λ w. IsRun p w.run) ws

pub schedule-runs : (p : PlanData) → ToRuns p (schedule p)
schedule-runs p = all_append (all_append (all_map (λ w i. i.run) (first-visits p)) (all_map (λ w i. i.run) (second-visits p))) (all_map (λ w i. i.run) (third-visits p))

-- ---- a visit to another run
abbrev pub Differ : Run → Run → Type 0
Differ r r' = eqb r'.level r.level && eqb r'.ordinal r.ordinal ≡ false

abbrev pub Other : Run → Visit → Type 0
Other r w = Differ r w.run

and-false-left : (s t : Bool) → s ≡ false → s && t ≡ false
and-false-left s t e = rw e

and-false-right : (s t : Bool) → t ≡ false → s && t ≡ false
and-false-right true t e = e
and-false-right false t e = refl

-- run r is visited once among these, in pass q
pub record Once (q : ℕ) (r : Run) (vs : List Visit) : Type 0 where
  pub before : List Visit
  pub after : List Visit
  pub is : vs ≡ before ++ visit_of q r ∷ after
  pub none_before : All (Other r) before
  pub none_after : All (Other r) after

once-left : {q : ℕ} {r : Run} {vs ws : List Visit} → Once q r vs → All (Other r) ws → Once q r (vs ++ ws)
once-left {q} {r} {vs} {ws} o a = record {
  before = o.before;
  after = o.after ++ ws;
  is = ap (λ us. us ++ ws) o.is ∙ append_assoc o.before (visit_of q r ∷ o.after) ws;
  none_before = o.none_before;
  none_after = all_append o.none_after a;
}

once-right : {q : ℕ} {r : Run} {vs ws : List Visit} → All (Other r) vs → Once q r ws → Once q r (vs ++ ws)
once-right {q} {r} {vs} {ws} a o = record {
  before = vs ++ o.before;
  after = o.after;
  is = ap (λ us. vs ++ us) o.is ∙ sym (append_assoc vs o.before (visit_of q r ∷ o.after));
  none_before = all_append a o.none_before;
  none_after = o.none_after;
}

others : (q : ℕ) (r : Run) (rs : List Run) → ((i : ℕ) → i < length rs → Other r (visit_of q (get_or rs i no_run))) → All (Other r) (map (visit_of q) rs)
others q r [] f = all_nil
others q r (x ∷ rs) f = all_cons (f 0 (omega arith)) (others q r rs (λ i h. f (suc i) (omega arith)))

once-among : (q : ℕ) (r : Run) (rs : List Run) (j k : ℕ) → ((i : ℕ) → i < length rs → (get_or rs i no_run).ordinal ≡ j + i) → k < length rs → j + k ≡ r.ordinal → get_or rs k no_run ≡ r
    → Once q r (map (visit_of q) rs)
once-among q r [] j k f h e z = absurd (omega arith)
once-among q r (x ∷ rs) j zero f h e z = record {
  before = [];
  after = map (visit_of q) rs;
  is = ap (λ y. visit_of q y ∷ map (visit_of q) rs) z;
  none_before = all_nil;
  none_after = others q r rs (λ i g. and-false-right (eqb (get_or rs i no_run).level r.level) _ (ne_eqb (get_or rs i no_run).ordinal r.ordinal (λ y. absurd (omega (arith, f (suc i) (omega arith))))));
}
once-among q r (x ∷ rs) j (suc k) f h e z = once-right {vs = visit_of q x ∷ []}
    (all_cons (and-false-right (eqb x.level r.level) _ (ne_eqb x.ordinal r.ordinal (λ y. absurd (omega (arith, f 0 (omega arith)))))) all_nil)
    (once-among q r rs (suc j) k (λ i g. omega (arith, f (suc i) (omega arith))) (omega arith) (omega arith) z)

once-on : (p : PlanData) (q : ℕ) {r : Run} → IsRun p r → Once q r (map (visit_of q) (runs_on p r.level))
unfolding run_at
once-on p q {r} i = once-among q r (runs_on p r.level) 0 r.ordinal (λ k h. omega (arith, (run-level p r.level k h).1)) i.few (omega arith) i.told

elsewhere : (p : PlanData) (q : ℕ) (r : Run) {ls : List ℕ} → All (λ l. l ≡ r.level → ⊥) ls → All (Other r) (pass_visits p q ls)
unfolding pass_visits
elsewhere p q r all_nil = all_nil
elsewhere p q r (all_cons {x = l} a «as») = all_append
    (others q r (runs_on p l) (λ i h. and-false-left _ _ (ne_eqb _ _ (λ e. a (sym (run-level p l i h).0 ∙ e))))) (elsewhere p q r «as»)

visits-append : (p : PlanData) (q : ℕ) (ls ms : List ℕ) → pass_visits p q (ls ++ ms) ≡ pass_visits p q ls ++ pass_visits p q ms
unfolding pass_visits
visits-append p q [] ms = refl
visits-append p q (l ∷ ls) ms = ap (λ vs. map (visit_of q) (runs_on p l) ++ vs) (visits-append p q ls ms) ∙ sym (append_assoc (map (visit_of q) (runs_on p l)) (pass_visits p q ls) (pass_visits p q ms))

once-level : (p : PlanData) (q : ℕ) {r : Run} (ls ms : List ℕ) → IsRun p r → All (λ l. l ≡ r.level → ⊥) ls → All (λ l. l ≡ r.level → ⊥) ms
    → Once q r (pass_visits p q (ls ++ r.level ∷ ms))
unfolding pass_visits
once-level p q {r} ls ms i a b = subst (λ vs. Once q r vs) (sym (visits-append p q ls (r.level ∷ ms))) (once-right (elsewhere p q r a) (once-left (once-on p q i) (elsewhere p q r b)))

-- the levels before and after a run's
module _ (p : PlanData) {r : Run} (i : IsRun p r) where
  levels-split : numbers 1 p.levels ≡ numbers 1 (r.level - 1) ++ r.level ∷ numbers (suc r.level) (p.levels - r.level)
  unfolding numbers
  levels-split = let h = i.one in let k = i.many in
      let e : p.levels ≡ (r.level - 1) + suc (p.levels - r.level) = omega arith in let f : 1 + (r.level - 1) ≡ r.level = omega arith in let g : r.level + 1 ≡ suc r.level = omega arith in
      ap (numbers 1) e ∙ numbers-append 1 (r.level - 1) (suc (p.levels - r.level)) ∙ ap (λ v. numbers 1 (r.level - 1) ++ v ∷ numbers (v + 1) (p.levels - r.level)) f
      ∙ ap (λ v. numbers 1 (r.level - 1) ++ r.level ∷ numbers v (p.levels - r.level)) g

  levels-before : All (λ l. l ≡ r.level → ⊥) (numbers 1 (r.level - 1))
  levels-before = all-numbers 1 (r.level - 1) (λ w h k e. absurd (omega (arith, i.one)))

  levels-after : All (λ l. l ≡ r.level → ⊥) (numbers (suc r.level) (p.levels - r.level))
  levels-after = all-numbers (suc r.level) (p.levels - r.level) (λ w h k e. absurd (omega arith))

  once-down : (q : ℕ) → Once q r (pass_visits p q (numbers 1 p.levels))
  once-down q = rw levels-split (once-level p q (numbers 1 (r.level - 1)) (numbers (suc r.level) (p.levels - r.level)) i levels-before levels-after)

  once-up : (q : ℕ) → Once q r (pass_visits p q (reverse (numbers 1 p.levels)))
  once-up q = let a = numbers 1 (r.level - 1) in let b = numbers (suc r.level) (p.levels - r.level) in
      let e : reverse (numbers 1 p.levels) ≡ reverse b ++ r.level ∷ reverse a =
      ap reverse levels-split ∙ reverse-append a (r.level ∷ b) ∙ ap (λ ls. ls ++ reverse a) (reverse-cons r.level b) ∙ append_assoc (reverse b) (r.level ∷ []) (reverse a) in
      rw e (once-level p q (reverse b) (reverse a) i (all-reverse b levels-after) (all-reverse a levels-before))

  pub once-first : Once 1 r (first_pass p)
  unfolding first_pass
  once-first = once-down 1

  pub once-second : Once 2 r (second_pass p)
  unfolding second_pass
  once-second = once-up 2

  pub once-third : Once 3 r (third_pass p)
  unfolding third_pass
  once-third = once-down 3
