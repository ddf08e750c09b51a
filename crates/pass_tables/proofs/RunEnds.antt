-- The vias beside a run: where they stand, and that each via of a level is on the left of exactly one run. Assumes nothing.
use Prim.Native.Nat.{ℕ, suc, ◌-◌, ◌<◌, ◌≤◌}
use mathlib.Core.Path.{◌≡◌, sym, ◌∙◌, ap}
use mathlib.Core.Bool.{true}
use mathlib.Core.List.{List, ◌∷◌}
use mathlib.Core.Option.{Option, some}
use native.Mathlib.Omega.{arith}
use lib.ListN.{length, get_or}
use Rattle.ints.proofs.Laws.{cases}
use Rattle.plan.specs.Plan.{PlanData, is_via}
use Rattle.passes.specs.Runs.{Run, no_run, run_at, runs_on}
use Rattle.plan.proofs.All.{no_true}
use Rattle.plan.specs.inner.Levels.{first_on, On}
use Rattle.plan.proofs.Levels.{level-on}
use Rattle.passes.proofs.RunsOn.{RunsTo, last, next, bounds, level-runs, run-at, run-level}
use Rattle.passes.specs.inner.Runs.{IsRun, vias_in}
use Rattle.passes.proofs.Edges.{left_at, right-at}

pub same_some : (a b : ℕ) → some a ≡ some b → a ≡ b
same_some a b e = cc

module _ {p : PlanData} {r : Run} (i : IsRun p r) (a : ℕ) where
  pub left-on : r.left ≡ some a → On p r.level a
  left-on e = let b = bounds i in let l = left_at a i.begins e in record { from = omega arith; to = omega arith }

  pub right-on : r.right ≡ some a → On p r.level a
  right-on e = let b = bounds i in let l = right-at a i.ends e in record { from = omega arith; to = omega arith }

-- ---- the run on the right of a via
pub one_right : {p : PlanData} {r r' : Run} (i : IsRun p r) (j : IsRun p r') (a : ℕ) → r.left ≡ some a → r'.left ≡ some a → r ≡ r'
one_right {p} {r} {r'} i j a e f =
    let levels : r.level ≡ r'.level = sym (level-on p r.level a i.one (left-on i a e)) ∙ level-on p r'.level a j.one (left-on j a f) in
    let firsts : i.first ≡ j.first = omega (arith, left_at a i.begins e, left_at a j.begins f) in
    let ordinals : r.ordinal ≡ r'.ordinal = i.place ∙ ap (λ (n : ℕ). vias_in p (first_on p r.level) (n - first_on p r.level)) firsts
    ∙ ap (λ (l : ℕ). vias_in p (first_on p l) (j.first - first_on p l)) levels ∙ sym j.place in
    sym i.told ∙ ap (λ (l : ℕ). run_at p l r.ordinal) levels ∙ ap (run_at p r'.level) ordinals ∙ j.told

record Among (v : ℕ) (rs : List Run) : Type 0 where
  pub index : ℕ
  pub few : index < length rs
  pub is : (get_or rs index no_run).left ≡ some v

among_next : {v : ℕ} (r : Run) {rs : List Run} → Among v rs → Among v (r ∷ rs)
among_next r m = record { index = suc m.index; few = omega (arith, m.few); is = m.is }

first-left : {p : PlanData} {l end k : ℕ} {left : Option ℕ} {first : ℕ} {rs : List Run} → RunsTo p l end k left first rs → (v : ℕ) → left ≡ some v → Among v rs
first-left (last n e q) v z = record { index = 0; few = omega arith; is = z }
first-left (next n u e f q t rs) v z = record { index = 0; few = omega arith; is = z }

among : {p : PlanData} {l end k : ℕ} {left : Option ℕ} {first : ℕ} {rs : List Run} → RunsTo p l end k left first rs → (v : ℕ) → is_via p v ≡ true → first ≤ v → v < end → Among v rs
among (last n e q) v t h k = no_true (sym (q v h (omega arith)) ∙ t)
among {first = first} (next n u e f q s rs) v t h k = cases v u
    (λ i. cases u v
    (λ j. let z : u ≡ v = omega arith in among_next _ (first-left rs v (ap some z)))
    (λ j. no_true (sym (q v h (omega arith)) ∙ t)))
    (λ i. among_next _ (among rs v t (omega arith) k))

pub record RightOf (p : PlanData) (l v : ℕ) : Type 0 where
  pub run : Run
  pub is : IsRun p run
  pub level : run.level ≡ l
  pub left : run.left ≡ some v

pub right_of : (p : PlanData) (l v : ℕ) → 1 ≤ l → l ≤ p.levels → On p l v → is_via p v ≡ true → RightOf p l v
right_of p l v one many o t = let m = among (level-runs p l) v t o.from o.to in
    record { run = get_or (runs_on p l) m.index no_run; is = run-at p l m.index one many m.few; level = (run-level p l m.index m.few).0; left = m.is }
