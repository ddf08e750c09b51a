-- The list of placings: each step is of a run of the plan, so the list holds at most 2,048 boxes, and no more placings. Assumes nothing.
use mathlib.Core.Path.{◌≡◌, refl, ◌∙◌, ap, subst}
use mathlib.Core.Bool.{true, cond, ◌&&◌}
use mathlib.Core.List.Memᴰ
use mathlib.Core.List.{List, [], ◌∷◌, map, map-append, Memᴰ}
use Prim.Native.Nat.{ℕ, zero, suc, ◌+◌, ◌*◌, ◌≤◌, ◌<◌}
use native.Mathlib.Omega.{arith}
use lib.Dec.{eqb}
use borrow.Author.Tests.{eq-eqb}
use lib.ListN.{length, get_or, length-append}
use lib.IntN.{ℤ}
use Rattle.ints.proofs.Laws.{if-ind}
use Rattle.plan.specs.Plan.{PlanData}
use Rattle.preliminary.specs.Positions.{preliminary}
use Rattle.passes.specs.Runs.{Run, runs_on, runs_of_levels, runs_of, no_run, run_at, is_bounded}
use Rattle.passes.specs.State.{Step, State, start_at}
use Rattle.passes.specs.Ready.{places, has_no_slack}
use Rattle.passes.specs.Passes.{placed, after, is_due, visit}
use Rattle.passes.specs.Drawing.{BoxAt, Placing, boxes_with, listed_before, listed}
use Rattle.passes.specs.Words.{run_of, times_placed, times_due, boxes_listed}
use Rattle.plan.proofs.All.{All, all_nil, all_cons, all_map, all_append}
use Rattle.passes.proofs.Sound.{Sound}
use Rattle.passes.specs.inner.Runs.{IsRun}
use Rattle.passes.proofs.Covered.{mem-numbers}
use Rattle.passes.proofs.Schedule.{ToRuns, schedule-runs}
use Rattle.passes.specs.inner.Schedule.{Visit, visit_all, start}
use Rattle.passes.proofs.Moments.{final}
use Rattle.passes.proofs.Due.{plan-runs, times-due}
use Rattle.passes.proofs.Tally.{weigh, weigh-plus, weigh-mem, weigh-twice, boxes-total}
use Rattle.passes.proofs.Preliminary.{Preliminary}

-- ---- each step is of a run of the plan
pub record OfRun (p : PlanData) (s : Step) : Type 0 where
  pub run : Run
  pub is : IsRun p run
  pub level : s.level ≡ run.level
  pub ordinal : s.ordinal ≡ run.ordinal

steps-visit : {p : PlanData} (w : Visit) (s : State) → IsRun p w.run → All (OfRun p) s.trace → All (OfRun p) (visit p w.pass w.run s).trace
unfolding visit after
steps-visit {p} w s i a = if-ind (is_due p w.pass s w.run) (after w.pass w.run (placed p w.pass s w.run) s) s (λ t. All (OfRun p) t.trace)
    (λ t. all_append a (all_cons (record { run = w.run; is = i; level = refl; ordinal = refl }) all_nil)) (λ t. a)

steps_all : {p : PlanData} {ws : List Visit} (s : State) → ToRuns p ws → All (OfRun p) s.trace → All (OfRun p) (visit_all p ws s).trace
unfolding visit_all
steps_all s all_nil a = a
steps_all {p} s (all_cons {x = w} i «is») a = steps_all (visit p w.pass w.run s) «is» (steps-visit w s i a)

pub final-steps : (p : PlanData) → All (OfRun p) (final p).trace
unfolding start_at
final-steps p = steps_all (start p) (schedule-runs p) all_nil

-- ---- a run of the plan is among its runs
mem-get : {A : Type 0} (l : List A) (k : ℕ) (d : A) → k < length l → Memᴰ (get_or l k d) l
mem-get [] k d h = absurd (omega arith)
mem-get (x ∷ l) zero d h = Memᴰ.head refl
mem-get (x ∷ l) (suc k) d h = Memᴰ.tail (mem-get l k d (omega arith))

mem-levels : (p : PlanData) (r : Run) {l : ℕ} {ls : List ℕ} → Memᴰ l ls → Memᴰ r (runs_on p l) → Memᴰ r (runs_of_levels p ls)
unfolding runs_of_levels
mem-levels p r (Memᴰ.head {x = x} {xs = xs} e) m = Memᴰ.append_left (runs_of_levels p xs) (subst (λ k. Memᴰ r (runs_on p k)) e m)
mem-levels p r (Memᴰ.tail {x = x} n) m = Memᴰ.append_right (runs_on p x) (mem-levels p r n m)

pub run-mem : {p : PlanData} {r : Run} → IsRun p r → Memᴰ r (runs_of p)
unfolding runs_of run_at
run-mem {p} {r} i = mem-levels p r (mem-numbers 1 p.levels r.level i.one (omega (arith, i.many)))
    (subst (λ o. Memᴰ o (runs_on p r.level)) i.told (mem-get (runs_on p r.level) r.ordinal no_run i.few))

-- ---- the boxes that the steps place
unfoldable pub load : PlanData → List Step → ℕ
load p [] = 0
load p (s ∷ ss) = length (run_of p s).boxes + load p ss

step-load : {p : PlanData} {s : Step} → OfRun p s → length (run_of p s).boxes ≤ weigh (λ r. cond (places r s) 1 0) (runs_of p)
step-load {p} {s} o = let r = o.run in
    let e : run_of p s ≡ r = ap (λ l. run_at p l s.ordinal) o.level ∙ ap (run_at p r.level) o.ordinal ∙ o.is.told in
    let z : places r s ≡ true = both s.level r.level s.ordinal r.ordinal o.level o.ordinal in
    let f : cond {A = ℕ} (places r s) 1 0 * length r.boxes ≡ length r.boxes = ap (λ t. cond {A = ℕ} t 1 0 * length r.boxes) z ∙ omega arith in
    omega (arith, ap (λ (x : Run). length x.boxes) e, f, weigh-mem (λ r. cond (places r s) 1 0) (run-mem o.is))
  where
    both : (a b c d : ℕ) → a ≡ b → c ≡ d → eqb a b && eqb c d ≡ true
    both a b c d e f = rw (eq-eqb a b e, eq-eqb c d f)

load-weigh : {p : PlanData} {ss : List Step} → All (OfRun p) ss → load p ss ≤ weigh (λ r. times_placed ss r) (runs_of p)
unfolding load times_placed
load-weigh all_nil = omega arith
load-weigh {p} (all_cons {x = s} {xs = ss} o os) = omega (arith, step-load o, load-weigh os, weigh-plus (λ r. cond (places r s) 1 0) (λ r. times_placed ss r) (runs_of p))

due-twice : (p : PlanData) (xs : List ℤ) (r : Run) → times_due p xs r ≤ 2
unfolding times_due
due-twice p xs r = if-ind (is_bounded r) (cond {A = ℕ} (has_no_slack p xs r) 0 1) 2 (λ n. n ≤ 2) (λ t. if-ind (has_no_slack p xs r) 0 1 (λ n. n ≤ 2) (λ u. omega arith) (λ u. omega arith)) (λ t. omega arith)

pub final-load : {p : PlanData} → Sound p → Preliminary p → load p (final p).trace ≤ 2048
final-load {p} so pre = omega (
  arith,
  load-weigh (final-steps p),
  boxes-total so,
  weigh-twice (λ r. times_placed (final p).trace r) (all_map (λ r i. omega (arith, times-due so pre i, due-twice p (preliminary p) r)) (plan-runs p)),
)

-- ---- the list
with-length : (vs : List ℕ) (ys : List ℤ) → length (boxes_with vs ys) ≤ length vs
unfolding boxes_with
with-length [] ys = omega arith
with-length (v ∷ vs) [] = omega arith
with-length (v ∷ vs) (y ∷ ys) = omega (arith, with-length vs ys)

before-length : (s : Step) (bs : List BoxAt) (more : List Placing) → length (boxes_listed (listed_before s bs more)) ≡ length bs + length (boxes_listed more)
unfolding boxes_listed
before-length s [] more = omega arith
before-length s (b ∷ bs) more = length-append (b ∷ bs) (boxes_listed more)

pub listed-boxes : (p : PlanData) (ss : List Step) → length (boxes_listed (listed p ss)) ≤ load p ss
unfolding listed load boxes_listed
listed-boxes p [] = omega arith
listed-boxes p (s ∷ ss) = omega (arith, before-length s (boxes_with (run_of p s).boxes s.positions) (listed p ss), with-length (run_of p s).boxes s.positions, listed-boxes p ss)

before-count : (s : Step) (bs : List BoxAt) (more : List Placing) → length more ≤ length (boxes_listed more) → length (listed_before s bs more) ≤ length (boxes_listed (listed_before s bs more))
unfolding boxes_listed
before-count s [] more h = h
before-count s (b ∷ bs) more h = omega (arith, length-append bs (boxes_listed more))

pub listed-count : (p : PlanData) (ss : List Step) → length (listed p ss) ≤ length (boxes_listed (listed p ss))
unfolding listed
listed-count p [] = omega arith
listed-count p (s ∷ ss) = before-count s (boxes_with (run_of p s).boxes s.positions) (listed p ss) (listed-count p ss)

-- ---- what holds of all positions in the trace holds of those listed
module _ {Q : ℤ → Type 0} where
  with_all : (vs : List ℕ) {ys : List ℤ} → All Q ys → All Q (map (λ (b : BoxAt). b.position) (boxes_with vs ys))
  unfolding boxes_with
  with_all [] a = all_nil
  with_all (v ∷ vs) all_nil = all_nil
  with_all (v ∷ vs) (all_cons q qs) = all_cons q (with_all vs qs)

  before-all : (s : Step) (bs : List BoxAt) (more : List Placing) → All Q (map (λ (b : BoxAt). b.position) bs) → All Q (map (λ (b : BoxAt). b.position) (boxes_listed more))
      → All Q (map (λ (b : BoxAt). b.position) (boxes_listed (listed_before s bs more)))
  unfolding boxes_listed
  before-all s [] more a c = c
  before-all s (b ∷ bs) more a c = rw (map-append (λ (b : BoxAt). b.position) (b ∷ bs) (boxes_listed more)) (all_append a c)

  pub listed-all : (p : PlanData) {ss : List Step} → All (λ s. All Q s.positions) ss → All Q (map (λ (b : BoxAt). b.position) (boxes_listed (listed p ss)))
  unfolding listed boxes_listed
  listed-all p all_nil = all_nil
  listed-all p (all_cons {x = s} {xs = ss} a «as») =
      before-all s (boxes_with (run_of p s).boxes s.positions) (listed p ss) (with_all (run_of p s).boxes a) (listed-all p «as»)
