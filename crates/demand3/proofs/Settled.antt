-- A bounded run that is settled stays so, and is not placed again: its boxes stand for good. Assumes nothing.
use mathlib.Core.Path.{◌≡◌, refl, sym, ◌∙◌, ap}
use mathlib.Core.Bool.{Bool, true, false, ◌||◌}
use mathlib.Core.List.{List}
use mathlib.Core.Logic.{◌⊎◌, inl, inr}
use Prim.Native.Nat.{ℕ, ◌+◌, ◌≤◌, ◌<◌}
use native.Mathlib.Omega.{arith}
use Rattle.ints.proofs.Laws.{cases}
use Rattle.plan.specs.Plan.{PlanData}
use Rattle.plan.specs.Checks.{any}
use Rattle.preliminary.specs.Positions.{preliminary}
use Rattle.passes.specs.Runs.{Run, is_bounded}
use Rattle.passes.specs.State.{State, position_of}
use Rattle.passes.specs.Ready.{has_no_slack, places, is_settled}
use Rattle.passes.specs.Passes.{placed, is_due, visit}
use Rattle.passes.specs.Words.{times_placed}
use Rattle.plan.proofs.All.{all_nil, all_cons, no_true}
use Rattle.passes.proofs.Sound.{Sound}
use Rattle.passes.specs.inner.Runs.{IsRun}
use Rattle.passes.proofs.Schedule.{ToRuns, Other}
use Rattle.passes.specs.inner.Schedule.{Visit, visit_all}
use Rattle.passes.proofs.Trace.{Reached, reached-visit}
use Rattle.passes.proofs.Moments.{grown-visit}
use Rattle.passes.proofs.Counts.{times, times-append, any_none, slack-still, due-settled, settled-slack, settled-placed}
use Rattle.passes.proofs.Frame.{other-box, box-still, visit-keeps}
use Rattle.passes.proofs.Distances.{same-or-other}

-- no slack, or placed before
abbrev pub Settled : PlanData → State → Run → Type 0
Settled p s r = (has_no_slack p (preliminary p) r ≡ true) ⊎ (1 ≤ times r s)

module _ {p : PlanData} {s : State} (c : Reached p s) {r : Run} (i : IsRun p r) where
  pub settled-from : is_settled p s r ≡ true → Settled p s r
  unfolding is_settled
  settled-from e = go (has_no_slack p s.at r) refl e
    where
      go : (t : Bool) → has_no_slack p s.at r ≡ t → t || any (places r) s.trace ≡ true → Settled p s r
      go true f e = inl (sym (slack-still c i) ∙ f)
      go false f e = inr (cases 1 (times r s) (λ h. h) (λ h. no_true (sym (any_none s.trace r (omega arith)) ∙ e)))

  settled-to : Settled p s r → is_settled p s r ≡ true
  settled-to (inl e) = settled-slack p s r (slack-still c i ∙ e)
  settled-to (inr h) = settled-placed p s r h

settled-more : (p : PlanData) (w : Visit) (s : State) (r : Run) → Settled p s r → Settled p (visit p w.pass w.run s) r
settled-more p w s r (inl e) = inl e
settled-more p w s r (inr h) = let g = grown-visit p w.pass w.run s in inr (omega (arith, ap (λ ts. times_placed ts r) g.is, times-append s.trace g.more r))

not-due : (p : PlanData) (w : Visit) (s : State) → is_due p w.pass s w.run ≡ false → (v : ℕ) → position_of (visit p w.pass w.run s).at v ≡ position_of s.at v
unfolding visit
not-due p w s e v = rw e

module _ {p : PlanData} (so : Sound p) {r : Run} (i : IsRun p r) (b : is_bounded r ≡ true) (v : ℕ) (h : i.first ≤ v) (k : v < i.first + i.count) where
  visit-still : {s : State} → Reached p s → Settled p s r → (w : Visit) → IsRun p w.run → position_of (visit p w.pass w.run s).at v ≡ position_of s.at v
  visit-still {s} c t w j = go (same-or-other i j)
    where
      go : (w.run ≡ r) ⊎ Other r w → position_of (visit p w.pass w.run s).at v ≡ position_of s.at v
      go (inl e) = not-due p w s (ap (is_due p w.pass s) e ∙ due-settled p w.pass s r b (settled-to c i t)) v
      go (inr o) = visit-keeps p (λ (u : State). position_of u.at v) w s (box-still j w.pass (placed p w.pass s w.run) s v (λ m n. other-box i j o v h k m n))

  pub stands-still : {s : State} {ws : List Visit} → Reached p s → Settled p s r → ToRuns p ws → position_of (visit_all p ws s).at v ≡ position_of s.at v
  unfolding visit_all
  stands-still c t all_nil = refl
  stands-still {s} c t (all_cons {x = w} j js) = stands-still {s = visit p w.pass w.run s} (reached-visit so c w.pass j) (settled-more p w s r t) js ∙ visit-still c t w j
