-- Positions stay within ±2^40 through the passes: bounded placings do not go further, and an open one by at most 64,000 half steps in pass
-- 1 and what its run spans in pass 2; each pass visits at most 1,088 runs. Assumes nothing.
use mathlib.Core.Path.{◌≡◌, refl, sym, ◌∙◌, ap, subst}
use mathlib.Core.Bool.{Bool, true, false, not}
use mathlib.Core.List.{List, [], ◌∷◌, ◌++◌, append_assoc}
use Prim.Native.Nat.{ℕ, suc, ◌+◌, ◌*◌}
use native.Mathlib.Omega.{arith}
use lib.Dec.{eqb}
use lib.ListN.{length}
use Rattle.plan.specs.Plan.{PlanData}
use Rattle.passes.specs.Runs.{is_bounded}
use Rattle.passes.specs.Passes.{placed, is_due, visit}
use Rattle.plan.proofs.All.{All, all_nil, all_cons, all_map, all_left, all_right, all_head, no_true}
use Rattle.passes.proofs.Sound.{Sound}
use Rattle.passes.specs.inner.Runs.{IsRun}
use Rattle.passes.proofs.Schedule.{ToRuns, visit-append, schedule-runs}
use Rattle.passes.specs.inner.Schedule.{Visit, visit_of, visit_all, schedule, first_pass, start}
use Rattle.passes.proofs.Trace.{Reached, reached-all, reached-start}
use Rattle.passes.proofs.Counts.{due-open}
use Rattle.passes.proofs.Located.{Where, at_first, at_second, at-third, where-is}
use Rattle.passes.proofs.Distances.{after1-is}
use Rattle.passes.proofs.Reach.{Lies, lies_more}
use Rattle.passes.proofs.Growth.{LiesAt, lies-at-more, bounded-lies, open-lies, grow-visit}
use Rattle.passes.proofs.Sums.{first-total, second-total}
use Rattle.passes.proofs.Preliminary.{Preliminary}

-- ---- one visit of each pass, wherever it is in the schedule
module _ {p : PlanData} (so : Sound p) (pre : Preliminary p) (w : Visit) (past coming : List Visit) (e : schedule p ≡ past ++ w ∷ coming) where
  runs : ToRuns p (past ++ w ∷ coming)
  runs = subst (ToRuns p) e (schedule-runs p)

  js : ToRuns p past
  js = all_left past (w ∷ coming) runs

  i : IsRun p w.run
  i = all_head (all_right past (w ∷ coming) runs)

  reached : Reached p (visit_all p past (start p))
  reached = reached-all so (reached-start so pre) js

  location : Where p w.run past w
  location = where-is i w refl past coming e

  -- whatever an open run may add
  grow : (M T : ℕ) → LiesAt M (visit_all p past (start p)) → (is_bounded w.run ≡ false → is_due p w.pass (visit_all p past (start p)) w.run ≡ true → All (Lies (M + T) (M + T)) (placed p w.pass (visit_all p past (start p)) w.run))
      → LiesAt (M + T) (visit p w.pass w.run (visit_all p past (start p)))
  grow M T l f = grow-visit so reached.inv i w.pass M T l (λ due. go (is_bounded w.run) refl due)
    where
      go : (b : Bool) → is_bounded w.run ≡ b → is_due p w.pass (visit_all p past (start p)) w.run ≡ true → All (Lies (M + T) (M + T)) (placed p w.pass (visit_all p past (start p)) w.run)
      go true b due = all_map (λ z k. lies_more (M + T) (M + T) (omega arith) (omega arith) z k) (bounded-lies so reached.inv i w.pass M l b)
      go false b due = f b due

  pub grow_first : (M : ℕ) → w.pass ≡ 1 → LiesAt M (visit_all p past (start p)) → LiesAt (M + 64000) (visit p w.pass w.run (visit_all p past (start p)))
  grow_first M z l = grow M 64000 l (λ b due. go b location)
    where
      go : is_bounded w.run ≡ false → Where p w.run past w → All (Lies (M + 64000) (M + 64000)) (placed p w.pass (visit_all p past (start p)) w.run)
      go b (at_first y os) = open-lies so reached.inv i w.pass M l 64000 (first-total so i js os)
      go b (at_second y t) = absurd (omega (arith, ap (λ (v : Visit). v.pass) y))
      go b (at-third y) = absurd (omega arith)

  pub grow-second : (Q M : ℕ) → ((a b : List Visit) → first_pass p ≡ a ++ b → LiesAt Q (visit_all p a (start p))) → w.pass ≡ 2 → LiesAt M (visit_all p past (start p))
      → LiesAt (M + (2 * Q + 1000)) (visit p w.pass w.run (visit_all p past (start p)))
  grow-second Q M f z l = grow M (2 * Q + 1000) l (λ b due. go b location)
    where
      go : is_bounded w.run ≡ false → Where p w.run past w → All (Lies (M + (2 * Q + 1000)) (M + (2 * Q + 1000))) (placed p w.pass (visit_all p past (start p)) w.run)
      go b (at_first y os) = absurd (omega (arith, ap (λ (v : Visit). v.pass) y))
      go b (at_second y t) = open-lies so reached.inv i w.pass M l (2 * Q + 1000) (second-total so pre i js b t Q
          (subst (LiesAt Q) (after1-is so pre i js b t) (f (t.earlier ++ visit_of 1 w.run ∷ []) t.rest (t.begun ∙ sym (append_assoc t.earlier (visit_of 1 w.run ∷ []) t.rest)))))
      go b (at-third y) = absurd (omega arith)

  pub grow-third : (M : ℕ) → w.pass ≡ 3 → LiesAt M (visit_all p past (start p)) → LiesAt (M + 0) (visit p w.pass w.run (visit_all p past (start p)))
  grow-third M z l = grow M 0 l (λ b due. no_true (sym (due-open p w.pass (visit_all p past (start p)) w.run b ∙ ap (λ k. not (eqb k 3)) z) ∙ due))

-- ---- many visits
module _ (p : PlanData) (q T : ℕ) (one : (w : Visit) (past coming : List Visit) → schedule p ≡ past ++ w ∷ coming → (M : ℕ) → w.pass ≡ q → LiesAt M (visit_all p past (start p))
    → LiesAt (M + T) (visit p w.pass w.run (visit_all p past (start p)))) where
  pub grow-all : {ws : List Visit} (past coming : List Visit) (M : ℕ) → schedule p ≡ past ++ (ws ++ coming) → All (λ w. w.pass ≡ q) ws → LiesAt M (visit_all p past (start p))
      → LiesAt (M + length ws * T) (visit_all p ws (visit_all p past (start p)))
  unfolding visit_all
  grow-all past coming M e all_nil l = lies-at-more (M + 0 * T) (omega arith) l
  grow-all past coming M e (all_cons {x = w} {xs = ws} z zs) l =
      let a : schedule p ≡ (past ++ w ∷ []) ++ (ws ++ coming) = e ∙ sym (append_assoc past (w ∷ []) (ws ++ coming)) in
      let s : visit_all p (past ++ w ∷ []) (start p) ≡ visit p w.pass w.run (visit_all p past (start p)) = visit-append p past (w ∷ []) (start p) in
      let n : M + T + length ws * T ≡ M + suc (length ws) * T = omega arith in
      let g = grow-all (past ++ w ∷ []) coming (M + T) a zs (rw s (one w past (ws ++ coming) e M z l)) in
      subst (λ k. LiesAt k (visit_all p ws (visit p w.pass w.run (visit_all p past (start p))))) n (rw s at g)
