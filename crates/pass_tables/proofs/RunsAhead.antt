-- The runs of a level that are still to be visited: the first of them ends at the next via or at the level's end, and the others
-- begin after that. Assumes nothing.
use Prim.Native.Nat.{ℕ, suc, ◌+◌, ◌-◌, ◌<◌, ◌≤◌}
use mathlib.Core.Path.{◌≡◌, refl, ap}
use mathlib.Core.List.{List, [], ◌∷◌}
use mathlib.Core.Option.{Option, none, some}
use native.Mathlib.Omega.{arith}
use lib.ListN.{length}
use Rattle.plan.specs.Plan.{PlanData, numbers}
use Rattle.passes.specs.Runs.{Run, run, runs_on}
use Rattle.plan.specs.inner.Levels.{first_on, size_on}
use Rattle.plan.proofs.Levels.{length-numbers}
use Rattle.passes.specs.inner.Runs.{LeftEnd, no-left, via-left, IsRun}
use Rattle.passes.proofs.RunsOn.{RunsTo, last, next, level-runs}
use Rattle.pass_tables.specs.inner.Tables.{next_via}
use Rattle.pass_tables.proofs.RunLaws.{next-is}
use Rattle.pass_tables.specs.inner.Moments.{RunIs}

-- the via before a run tells where its boxes begin
same_first : {p : PlanData} {b : ℕ} {o : Option ℕ} {low low' first first' : ℕ} → LeftEnd p b o low first → LeftEnd p b o low' first' → first ≡ first'
same_first (no-left e f) (no-left e' f') = omega arith
same_first (via-left e f g t) (via-left e' f' g' t') = omega arith

begins-low : {p : PlanData} {b : ℕ} {o : Option ℕ} {low first : ℕ} → LeftEnd p b o low first → b ≤ first
begins-low (no-left e f) = omega arith
begins-low (via-left e f g t) = omega arith

-- The runs of level l from vertex `from` on; none if the level is passed.
pub data Ahead (p : PlanData) (l from : ℕ) : List Run → Type 0 where
  passed : from ≡ suc (first_on p l + size_on p l) → Ahead p l from []
  ahead : {k : ℕ} {left : Option ℕ} {low : ℕ} {rest : List Run} → RunsTo p l (first_on p l + size_on p l) k left from rest → LeftEnd p (first_on p l) left low from → Ahead p l from rest

pub all-ahead : (p : PlanData) (l : ℕ) → Ahead p l (first_on p l) (runs_on p l)
all-ahead p l = ahead {low = first_on p l} (level-runs p l) (no-left refl refl)

-- the first of them, its boxes from `from` up to `end`
pub record NextRun (p : PlanData) (l from end : ℕ) (rest : List Run) : Type 0 where
  pub run : Run
  pub more : List Run
  pub is : rest ≡ run ∷ more
  pub level : run.level ≡ l
  pub stands : IsRun p run → RunIs p run (first_on p l) from end (first_on p l + size_on p l)
  pub later : Ahead p l (suc end) more

stands : {p : PlanData} {l k : ℕ} {left right : Option ℕ} {low from : ℕ} (n end : ℕ) → from + n ≡ end → LeftEnd p (first_on p l) left low from
    → IsRun p (run l k left (numbers from n) right) → RunIs p (run l k left (numbers from n) right) (first_on p l) from end (first_on p l + size_on p l)
stands {from = from} n end e g i =
    let first = same_first g i.begins in
    record { is = i; starts = refl; first = first; past = omega (arith, ap length i.boxes, length-numbers from n, length-numbers i.first i.count); ends = refl }

module _ (p : PlanData) (l : ℕ) where
  abbrev to : ℕ
  to = first_on p l + size_on p l

  first_of : {k : ℕ} {left : Option ℕ} {low from : ℕ} {rest : List Run} → RunsTo p l to k left from rest → LeftEnd p (first_on p l) left low from
      → NextRun p l from (next_via p.vias from (to - from)) rest
  first_of {from = from} (last {k = k} {left = left} n e q) g =
      let end : next_via p.vias from (to - from) ≡ from + n = next-is p.vias from (to - from) (from + n) (omega arith) (omega arith) q (λ h. absurd (omega arith)) in
      rw end (record { run = run l k left (numbers from n) none; more = []; is = refl; level = refl; stands = λ i. stands n (from + n) refl g i; later = passed (ap suc e) })
  first_of {from = from} (next {k = k} {left = left} {rs = rs} n v e f q t more) g =
      let end : next_via p.vias from (to - from) ≡ v = next-is p.vias from (to - from) v (omega arith) (omega arith) (λ u h j. q u h (omega arith)) (λ h. t) in
      rw end (record { run = run l k left (numbers from n) (some v); more = rs; is = refl; level = refl; stands = λ i. stands n v e g i; later = ahead {low = v} more (via-left {v = v} refl refl (omega (arith, begins-low g)) t) })

  pub next-run : {from : ℕ} {rest : List Run} → Ahead p l from rest → from ≤ to → NextRun p l from (next_via p.vias from (to - from)) rest
  next-run (passed e) h = absurd (omega arith)
  next-run (ahead r g) h = first_of r g

  pub none_left : {from : ℕ} {rest : List Run} → Ahead p l from rest → to < from → rest ≡ []
  none_left (passed e) h = refl
  none_left (ahead (last n e q) g) h = absurd (omega arith)
  none_left (ahead (next n v e f q t more) g) h = absurd (omega arith)
