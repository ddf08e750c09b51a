-- What a draw makes of an acceptable plan is a drawing that is not refused. Assumes nothing.
use Prim.Native.Nat.{ℕ, ◌≤◌}
use mathlib.Core.Path.{◌≡◌, refl, sym, ◌∙◌, ap}
use mathlib.Core.Bool.{true, ◌&&◌}
use mathlib.Core.List.{List, [], ◌∷◌, map}
use native.Mathlib.Omega.{arith}
use borrow.Author.Tests.{le-leb, eq-eqb}
use lib.Dec.{eqb}
use lib.ListN.{length, length-map}
use Rattle.ints.proofs.Laws.{if-ind}
use Rattle.plan.specs.Limits.{within}
use Rattle.plan.specs.Plan.{PlanData}
use Rattle.plan.specs.Acceptable.{acceptable}
use Rattle.report.specs.Refusal13.{same_numbers, is_pass, is_run_of_plan, is_drawing}
use Rattle.report.proofs.SameData.{numbers-same}
use Rattle.ints.proofs.Tests.{◌and◌}
use Rattle.passes.specs.Runs.{Run, run_at}
use Rattle.passes.specs.State.{Step, State, start_at}
use Rattle.passes.specs.Passes.{placed, after, is_due, visit}
use Rattle.passes.specs.Drawing.{BoxAt, Placing, boxes_with, listed_before, listed, drawing_of, Drawing}
use Rattle.plan.proofs.All.{All, all_nil, all_cons, all_map, all_append, all-every}
use Rattle.plan.proofs.Levels.{length-numbers}
use Rattle.passes.specs.inner.Runs.{IsRun}
use Rattle.passes.proofs.Placing.{placed-length}
use Rattle.passes.specs.inner.Schedule.{Visit, visit_all, schedule, start}
use Rattle.passes.proofs.Schedule.{IsVisit, first-visits, second-visits, third-visits}
use Rattle.passes.proofs.Moments.{final, drawing, drawing-is}
use Rattle.passes.proofs.Sound.{sound}
use Rattle.passes.proofs.Listed.{run-mem}
use Rattle.report_validity.specs.inner.Stored.{OfPlan, StoredLevels}
use Rattle.report_validity.specs.inner.Tests.{is_run_on}
use Rattle.report_validity.proofs.RunTests.{some_of}
use Rattle.report_validity.proofs.Decoded.{with-vertices, run_is}
use Rattle.passes.proofs.DrawingWithin.{drawn-within}

-- ---- each step is of a pass, and gives each box of a run a position
record Made (p : PlanData) (s : Step) : Type 0 where
  pub pass : within 1 3 s.pass ≡ true
  pub run : Run
  pub is : IsRun p run
  pub told : run_at p s.level s.ordinal ≡ run
  pub level : s.level ≡ run.level
  pub long : length run.boxes ≡ length s.positions

record Due (p : PlanData) (w : Visit) : Type 0 where
  pub pass : within 1 3 w.pass ≡ true
  pub run : IsRun p w.run

due : {p : PlanData} (q : ℕ) → within 1 3 q ≡ true → {ws : List Visit} → All (IsVisit p q) ws → All (Due p) ws
due {p} q e a = all_map (λ w i. record { pass = ap (within 1 3) i.pass ∙ e; run = i.run }) a

schedule-due : (p : PlanData) → All (Due p) (schedule p)
schedule-due p = all_append (all_append (due 1 refl (first-visits p)) (due 2 refl (second-visits p))) (due 3 refl (third-visits p))

made-visit : {p : PlanData} (w : Visit) (s : State) → Due p w → All (Made p) s.trace → All (Made p) (visit p w.pass w.run s).trace
unfolding visit after
made-visit {p} w s d a = if-ind (is_due p w.pass s w.run) (after w.pass w.run (placed p w.pass s w.run) s) s (λ t. All (Made p) t.trace)
    (λ t. all_append a (all_cons (record {
      pass = d.pass;
      run = w.run;
      is = d.run;
      told = d.run.told;
      level = refl;
      long = ap length d.run.boxes ∙ length-numbers d.run.first d.run.count ∙ sym (placed-length w.pass s d.run);
    }) all_nil))
    (λ t. a)

made_all : {p : PlanData} {ws : List Visit} (s : State) → All (Due p) ws → All (Made p) s.trace → All (Made p) (visit_all p ws s).trace
unfolding visit_all
made_all s all_nil a = a
made_all {p} s (all_cons {x = w} d ds) a = made_all (visit p w.pass w.run s) ds (made-visit w s d a)

final-made : (p : PlanData) → All (Made p) (final p).trace
unfolding start_at
final-made p = made_all (start p) (schedule-due p) all_nil

-- ---- each listed placing
record Listable (p : PlanData) (q : Placing) : Type 0 where
  pub pass : is_pass q ≡ true
  pub run : is_run_of_plan p q ≡ true

run_on : {p : PlanData} {r : Run} (l : ℕ) → IsRun p r → l ≡ r.level → 1 ≤ length r.boxes → is_run_on p l r.boxes ≡ true
unfolding is_run_on
run_on {p} {r} l i e h = le-leb 1 (length r.boxes) h
    and some_of (λ (o : Run). eqb l o.level && same_numbers r.boxes o.boxes) (run-mem i) (eq-eqb l r.level e and numbers-same r.boxes)

before-listable : {p : PlanData} (s : Step) (m : Made p s) (bs : List BoxAt) {more : List Placing} → map (λ (b : BoxAt). b.vertex) bs ≡ m.run.boxes → All (Listable p) more
    → All (Listable p) (listed_before s bs more)
before-listable s m [] e a = a
before-listable {p} s m (b ∷ bs) e a =
    let n : 1 ≤ length m.run.boxes = omega (arith, ap length e, length-map bs (λ (b : BoxAt). b.vertex)) in
    all_cons (record { pass = m.pass; run = run_is p s.pass s.level (b ∷ bs) m.run.boxes e ∙ run_on s.level m.is m.level n }) a

listed-listable : (p : PlanData) {ss : List Step} → All (Made p) ss → All (Listable p) (listed p ss)
unfolding listed
listed-listable p all_nil = all_nil
listed-listable p (all_cons {x = s} m ms) =
    let r = m.run in
    let e : map (λ (b : BoxAt). b.vertex) (boxes_with (run_at p s.level s.ordinal).boxes s.positions) ≡ r.boxes =
    ap (λ (o : Run). map (λ (b : BoxAt). b.vertex) (boxes_with o.boxes s.positions)) m.told ∙ with-vertices r.boxes s.positions m.long in
    before-listable s m (boxes_with (run_at p s.level s.ordinal).boxes s.positions) e (listed-listable p ms)

-- ---- the whole drawing
pub drawn-valid : (p : PlanData) → acceptable p ≡ true → is_drawing p (drawing_of p) ≡ true
unfolding is_drawing drawing
drawn-valid p ok =
    let a = listed-listable p (final-made p) in
    let e : (drawing_of p).placings ≡ listed p (final p).trace = ap (λ (d : Drawing). d.placings) (drawing-is p) in
    drawn-within p ok and rw e (all-every is_pass (all_map (λ q l. l.pass) a)) and rw e (all-every (is_run_of_plan p) (all_map (λ q l. l.run) a))

-- ---- and of an acceptable plan the program can be asked
pub of-plan : (p : PlanData) → acceptable p ≡ true → OfPlan p p.sizes p.vias
of-plan p ok = record { of_levels = sym (sound p ok).sizes; of_sizes = refl; of_vias = refl }

pub levels-of : (p : PlanData) → acceptable p ≡ true → StoredLevels p.sizes p.vias
levels-of p ok = record { total = (sound p ok).total; few = (sound p ok).vertices }
