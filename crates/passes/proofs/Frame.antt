-- A vertex is in one run, and so are two siblings; so a visit to another run moves neither a run's boxes nor its distances. Assumes nothing.
use mathlib.Core.Path.{◌≡◌, refl, sym, ◌∙◌, ap}
use mathlib.Core.Bool.{true, false}
use mathlib.Core.List.{List}
use mathlib.Core.Option.{Option}
use Prim.Native.Nat.{ℕ, suc, ◌+◌, ◌-◌, ◌≤◌, ◌<◌}
use native.Mathlib.Omega.{arith}
use borrow.Author.Tests.{eq-eqb}
use lib.ListN.{get_or}
use lib.IntN.{ℤ}
use Rattle.ints.proofs.Laws.{if-ind, cases}
use Rattle.plan.specs.Plan.{PlanData, is_via}
use Rattle.passes.specs.Runs.{Run, is_open, is_bounded, members}
use Rattle.passes.specs.State.{State, position_of, put, take_on}
use Rattle.passes.specs.Passes.{placed, after, is_due, visit}
use Rattle.plan.proofs.All.{All, all_nil, all_cons, no_true}
use Rattle.plan.specs.inner.Levels.{first_on}
use Rattle.plan.proofs.Levels.{level-on}
use Rattle.passes.specs.inner.Runs.{LeftEnd, no-left, via-left, vias_in, IsRun}
use Rattle.passes.proofs.RunsOn.{bounds, members-are}
use Rattle.passes.proofs.Put.{take_out}
use Rattle.passes.proofs.Spaced.{put-still}
use Rattle.passes.proofs.Placing.{side-of, box-right}
use Rattle.passes.specs.inner.Schedule.{Visit, visit_all}
use Rattle.passes.proofs.Schedule.{ToRuns, Differ, Other}

-- ---- one run
not-inside : {p : PlanData} {b : ℕ} {o : Option ℕ} {low first : ℕ} (a n : ℕ) → LeftEnd p b o low first → b ≤ a → ((w : ℕ) → a ≤ w → w < a + n → is_via p w ≡ false) → a < first → first ≤ a + n → ⊥
not-inside a n (no-left e f) h q j k = absurd (omega arith)
not-inside a n (via-left {v = v} e f g t) h q j k = no_true (sym (q v (omega arith) (omega arith)) ∙ t)

module _ {p : PlanData} {r r' : Run} (i : IsRun p r) (j : IsRun p r') where
  -- two runs of a level whose stretches meet are one
  same-ordinal : r.level ≡ r'.level → i.first ≤ j.first + j.count → j.first ≤ i.first + i.count → r.ordinal ≡ r'.ordinal
  same-ordinal e h k = let c = bounds i in let d = bounds j in let f : first_on p r.level ≡ first_on p r'.level = ap (first_on p) e in
      let z : i.first ≡ j.first = cases i.first j.first
      (λ m. cases j.first i.first (λ n. omega arith) (λ n. absurd (not-inside i.first i.count j.begins (omega arith) i.plain n k)))
      (λ m. absurd (not-inside j.first j.count i.begins (omega arith) j.plain m h)) in
      i.place ∙ ap (λ n. vias_in p (first_on p r.level) (n - first_on p r.level)) z ∙ ap (λ n. vias_in p n (j.first - n)) f ∙ sym j.place

  same-levels : (v : ℕ) → i.low ≤ v → v < i.high → j.low ≤ v → v < j.high → r.level ≡ r'.level
  same-levels v h k m n = let c = bounds i in let d = bounds j in
      sym (level-on p r.level v i.one (record { from = omega arith; to = omega arith })) ∙ level-on p r'.level v j.one (record { from = omega arith; to = omega arith })

  not-other : r.level ≡ r'.level → r.ordinal ≡ r'.ordinal → Differ r r' → ⊥
  not-other e f o = no_true (sym o ∙ rw (eq-eqb r'.level r.level (sym e), eq-eqb r'.ordinal r.ordinal (sym f)))

  module _ (o : Differ r r') (v : ℕ) where
    -- no box of both
    pub other-box : i.first ≤ v → v < i.first + i.count → j.first ≤ v → v < j.first + j.count → ⊥
    other-box h k m n = let c = bounds i in let d = bounds j in let e = same-levels v (omega arith) (omega arith) (omega arith) (omega arith) in
        not-other e (same-ordinal e (omega arith) (omega arith)) o

    -- no two siblings of both
    pub other-pair : i.low ≤ v → v < i.first + i.count → j.low ≤ v → suc v < j.high → ⊥
    other-pair h k m n = let c = bounds i in let d = bounds j in let g = box-right i v (side-of j v m n) h k in let e = same-levels v (omega arith) (omega arith) (omega arith) (omega arith) in
        not-other e (same-ordinal e (omega arith) (omega arith)) o

-- ---- what a placing leaves alone
module _ {p : PlanData} {r : Run} (j : IsRun p r) (q : ℕ) (ys : List ℤ) (s : State) where
  pub box-still : (v : ℕ) → (j.first ≤ v → v < j.first + j.count → ⊥) → position_of (after q r ys s).at v ≡ position_of s.at v
  unfolding after
  box-still v h = put-still j ys s.at v h

  pub pair-still : (v : ℕ) → (j.low ≤ v → suc v < j.high → ⊥) → get_or (after q r ys s).apart v 0 ≡ get_or s.apart v 0
  unfolding after
  pair-still v h = if-ind (is_open r) (take_on (put r.boxes ys s.at) (members r) s.apart) s.apart (λ ds. get_or ds v 0 ≡ get_or s.apart v 0)
      (λ t. ap (λ ms. get_or (take_on (put r.boxes ys s.at) ms s.apart) v 0) (members-are j) ∙ take_out (put r.boxes ys s.at) j.low (j.high - j.low) s.apart v (λ k l. h k (omega (arith, (bounds j).right))))
      (λ t. refl)

  pub bounded-still : is_bounded r ≡ true → (after q r ys s).apart ≡ s.apart
  unfolding after
  bounded-still e = rw e

-- ---- so do visits to other runs
pub visit-keeps : (p : PlanData) {A : Type 0} (f : State → A) (w : Visit) (s : State) → f (after w.pass w.run (placed p w.pass s w.run) s) ≡ f s → f (visit p w.pass w.run s) ≡ f s
unfolding visit
visit-keeps p f w s e = if-ind (is_due p w.pass s w.run) (after w.pass w.run (placed p w.pass s w.run) s) s (λ t. f t ≡ f s) (λ t. e) (λ t. refl)

module _ {p : PlanData} {r : Run} (i : IsRun p r) (v : ℕ) where
  pub pairs-kept : {ws : List Visit} (s : State) → i.low ≤ v → v < i.first + i.count → ToRuns p ws → All (Other r) ws → get_or (visit_all p ws s).apart v 0 ≡ get_or s.apart v 0
  unfolding visit_all
  pairs-kept s h k all_nil os = refl
  pairs-kept s h k (all_cons {x = w} j js) (all_cons o os) = pairs-kept (visit p w.pass w.run s) h k js os
      ∙ visit-keeps p (λ (t : State). get_or t.apart v 0) w s (pair-still j w.pass (placed p w.pass s w.run) s v (λ m n. other-pair i j o v h k m n))
