-- Every state of the passes lies within ±2^40: what it holds was written by steps of the final trace. Assumes nothing.
use mathlib.Core.Path.{◌≡◌, ◌∙◌, ap, subst}
use mathlib.Core.Bool.{true}
use mathlib.Core.List.{List, [], ◌∷◌, ◌++◌}
use Prim.Native.Nat.{ℕ, zero, suc}
use native.Mathlib.Omega.{arith}
use lib.ListN.{set}
use lib.IntN.{ℤ}
use Rattle.plan.specs.Plan.{PlanData}
use Rattle.plan.specs.Acceptable.{acceptable}
use Rattle.preliminary.specs.Positions.{preliminary}
use Rattle.preliminary.proofs.Positions.{preliminary-size}
use Rattle.passes.specs.State.{Step, State, position_of, put}
use Rattle.passes.specs.Words.{run_of, replay}
use Rattle.plan.proofs.All.{All, all_nil, all_cons, all_left}
use Rattle.passes.proofs.Sound.{sound}
use Rattle.passes.proofs.Kept.{kept}
use Rattle.passes.proofs.Schedule.{ToRuns, visit-append, schedule-runs}
use Rattle.passes.specs.inner.Schedule.{Visit, visit_all, schedule, start}
use Rattle.passes.proofs.Trace.{Reached, reached-all, reached-start}
use Rattle.passes.proofs.Moments.{grown-all}
use Rattle.passes.proofs.Reach.{Lies}
use Rattle.passes.proofs.Growth.{LiesAt}
use Rattle.passes.proofs.DrawingWithin.{final-lies}
use Rattle.pass_tables.specs.inner.Moments.{state_after}

module _ {M : ℕ} where
  set-lies : (xs : List ℤ) (u : ℕ) (y : ℤ) → Lies M M y → ((v : ℕ) → Lies M M (position_of xs v)) → (v : ℕ) → Lies M M (position_of (set xs u y) v)
  set-lies [] u y l f v = f v
  set-lies (x ∷ xs) zero y l f zero = l
  set-lies (x ∷ xs) zero y l f (suc v) = f (suc v)
  set-lies (x ∷ xs) (suc u) y l f zero = f zero
  set-lies (x ∷ xs) (suc u) y l f (suc v) = set-lies xs u y l (λ w. f (suc w)) v

  put-lies : (vs : List ℕ) {ys : List ℤ} (xs : List ℤ) → All (Lies M M) ys → ((v : ℕ) → Lies M M (position_of xs v)) → (v : ℕ) → Lies M M (position_of (put vs ys xs) v)
  unfolding put
  put-lies [] xs ls f v = f v
  put-lies (u ∷ vs) xs all_nil f v = f v
  put-lies (u ∷ vs) xs (all_cons {x = y} l ls) f v = put-lies vs (set xs u y) ls (set-lies xs u y l f) v

  replay-lies : (p : PlanData) {ss : List Step} (xs : List ℤ) → All (λ t. All (Lies M M) t.positions) ss → ((v : ℕ) → Lies M M (position_of xs v)) → (v : ℕ) → Lies M M (position_of (replay p ss xs) v)
  unfolding replay
  replay-lies p xs all_nil f v = f v
  replay-lies p xs (all_cons {x = s} l ls) f v = replay-lies p (put (run_of p s).boxes s.positions xs) ls (put-lies (run_of p s).boxes xs l f) v

module _ (p : PlanData) (ok : acceptable p ≡ true) (past coming : List Visit) (e : schedule p ≡ past ++ coming) where
  pub past-runs : ToRuns p past
  past-runs = all_left past coming (subst (ToRuns p) e (schedule-runs p))

  pub past-reached : Reached p (state_after p past)
  past-reached = reached-all (sound p ok) (reached-start (sound p ok) (kept p ok)) past-runs

  pub past-lies : LiesAt 297685948928 (state_after p past)
  past-lies =
      let g = grown-all p coming (state_after p past) in
      let z = ap (λ (ws : List Visit). (visit_all p ws (start p)).trace) e ∙ ap (λ (s : State). s.trace) (visit-append p past coming (start p)) ∙ g.is in
      let steps = all_left (state_after p past).trace g.more (subst (All (λ (t : Step). All (Lies 297685948928 297685948928) t.positions)) z (final-lies (sound p ok) (kept p ok)).steps) in
      let first : (v : ℕ) → Lies 297685948928 297685948928 (position_of (preliminary p) v) = λ v. record { right = omega (arith, preliminary-size p ok v); left = omega (arith, preliminary-size p ok v) } in
      record { at = λ v. rw past-reached.replayed (replay-lies p (preliminary p) steps first v); steps = steps }
