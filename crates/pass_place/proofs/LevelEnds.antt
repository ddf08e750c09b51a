-- The last vertex of a level has no sibling: its distance in force is 0 throughout the passes. Assumes nothing.
use mathlib.Core.Path.{◌≡◌, refl, sym, ◌∙◌, ap}
use mathlib.Core.List.{List, [], ◌∷◌, ◌++◌}
use Prim.Native.Nat.{ℕ, zero, suc, ◌+◌, ◌-◌, ◌≤◌, ◌<◌}
use native.Mathlib.Omega.{arith}
use lib.ListN.{length, get_or, take, get_or-append}
use lib.Seq.{get_or-append-add}
use Rattle.ints.specs.Lists.{sum}
use Rattle.plan.specs.Plan.{PlanData, numbers, levels_from, levels_of}
use Rattle.passes.specs.State.{State, doubled_on, doubled_in, start_at}
use Rattle.passes.specs.Passes.{placed, visit}
use Rattle.plan.proofs.All.{all_nil, all_cons}
use Rattle.plan.specs.inner.Levels.{first_on, size_on}
use Rattle.plan.proofs.Levels.{level-on}
use Rattle.passes.specs.inner.Runs.{IsRun}
use Rattle.passes.proofs.RunsOn.{bounds}
use Rattle.passes.proofs.Schedule.{ToRuns}
use Rattle.passes.specs.inner.Schedule.{Visit, visit_all, start}
use Rattle.passes.proofs.Trace.{length-doubled}
use Rattle.passes.proofs.Frame.{pair-still, visit-keeps}

doubled-last : (p : PlanData) (v n i : ℕ) → suc i ≡ n → get_or (doubled_on p (numbers v n)) i 0 ≡ 0
unfolding doubled_on numbers
doubled-last p v zero i e = absurd (omega arith)
doubled-last p v (suc zero) zero e = refl
doubled-last p v (suc zero) (suc i) e = absurd (omega arith)
doubled-last p v (suc (suc n)) zero e = absurd (omega arith)
doubled-last p v (suc (suc n)) (suc i) e = doubled-last p (v + 1) (suc n) i (omega arith)

levels-last : (p : PlanData) (v : ℕ) (ns : List ℕ) (k w : ℕ) → sum (take k ns) ≤ w → suc w ≡ sum (take k ns) + get_or ns k 0 → get_or (doubled_in p (levels_from v ns)) w 0 ≡ 0
unfolding doubled_in levels_from sum
levels-last p v [] zero w h e = refl
levels-last p v [] (suc k) w h e = refl
levels-last p v (n ∷ ns) zero w h e = get_or-append (doubled_on p (numbers v n)) (doubled_in p (levels_from (v + n) ns)) 0 w (omega (arith, length-doubled p v n)) ∙ doubled-last p v n w (omega arith)
levels-last p v (n ∷ ns) (suc k) w h e = let z : w ≡ length (doubled_on p (numbers v n)) + (w - n) = omega (arith, length-doubled p v n) in
    ap (λ (u : ℕ). get_or (doubled_on p (numbers v n) ++ doubled_in p (levels_from (v + n) ns)) u 0) z
    ∙ get_or-append-add (doubled_on p (numbers v n)) (doubled_in p (levels_from (v + n) ns)) (w - n) 0 ∙ levels-last p (v + n) ns k (w - n) (omega arith) (omega arith)

module _ (p : PlanData) (l v : ℕ) (one : 1 ≤ l) (on : first_on p l ≤ v) (last : suc v ≡ first_on p l + size_on p l) where
  start-last : get_or (start p).apart v 0 ≡ 0
  unfolding start_at levels_of first_on size_on
  start-last = levels-last p 0 p.sizes (l - 1) v on last

  -- no run has it and a sibling to its right
  no-pair : (w : Visit) (j : IsRun p w.run) → j.low ≤ v → suc v < j.high → ⊥
  no-pair w j h k = let b = bounds j in let m = w.run.level in
      let e : m ≡ l = sym (level-on p m v j.one (record { from = omega arith; to = omega arith })) ∙ level-on p l v one (record { from = on; to = omega arith }) in
      let f : first_on p m + size_on p m ≡ first_on p l + size_on p l = ap (λ (n : ℕ). first_on p n + size_on p n) e in
      absurd (omega (arith, b.to))

  last-kept : {ws : List Visit} (s : State) → ToRuns p ws → get_or (visit_all p ws s).apart v 0 ≡ get_or s.apart v 0
  unfolding visit_all
  last-kept s all_nil = refl
  last-kept s (all_cons {x = w} j js) = last-kept (visit p w.pass w.run s) js
      ∙ visit-keeps p (λ (t : State). get_or t.apart v 0) w s (pair-still j w.pass (placed p w.pass s w.run) s v (no-pair w j))

  pub last_none : (past : List Visit) → ToRuns p past → get_or (visit_all p past (start p)).apart v 0 ≡ 0
  last_none past js = last-kept (start p) js ∙ start-last
