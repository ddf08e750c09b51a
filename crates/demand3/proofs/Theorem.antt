-- Demand 3, for every acceptable plan: the drawing that the definitions make has every promised property.
use mathlib.Core.Path.{◌≡◌, refl, sym, ◌∙◌, ap, subst}
use mathlib.Core.Bool.{true}
use Prim.Native.Nat.{ℕ, ◌≤◌, ◌<◌}
use lib.ListN.{length}
use Rattle.plan.specs.Plan.{PlanData}
use Rattle.plan.specs.Acceptable.{acceptable}
use Rattle.passes.specs.Runs.{is_bounded}
use Rattle.passes.specs.State.{Step}
use Rattle.passes.specs.Drawing.{listed, trace_of, drawing_of}
use Rattle.passes.specs.Words.{run_of, finished, step_at}
use Rattle.passes.specs.Demand3.{Best, Demand3}
use Rattle.passes.proofs.Sound.{Sound, sound}
use Rattle.passes.proofs.Moments.{step, final-trace, reached-final, finished-is, moment-of, run_is, drawing, drawing-is}
use Rattle.demand3.proofs.Upright.{order-kept, inner-upright}
use Rattle.demand3.proofs.Bends.{bends-twice}
use Rattle.passes.proofs.Due.{placed-as-due}
use Rattle.demand3.proofs.BestThen.{step_at-is, best-then}
use Rattle.demand3.proofs.Lasting.{best-last}
use Rattle.passes.proofs.DrawingWithin.{drawing-within}
use Rattle.passes.proofs.Preliminary.{Preliminary}
use Rattle.passes.proofs.Kept.{kept}

module _ {p : PlanData} (so : Sound p) (pre : Preliminary p) where
  last-bounded : (i : ℕ) (m : i < length (trace_of p)) → is_bounded (run_of p (step_at (trace_of p) i)) ≡ true → (step_at (trace_of p) i).pass ≤ 2 → Best p (trace_of p) i (finished p (trace_of p))
  last-bounded i h b q = let m = moment-of so pre i h in let e = step_at-is so pre m in
      best-last so pre m (ap is_bounded (sym (ap (run_of p) e ∙ run_is so pre m)) ∙ b) (subst (λ (s : Step). s.pass ≤ 2) e q)

  holds : Demand3 p (drawing p)
  unfolding drawing
  holds = let c = reached-final so pre in record {
    started = refl;
    made = ap (listed p) (sym (final-trace p));
    ended = sym (finished-is so pre);
    starts = pre.long;
    ends = c.inv.at_length;
    order = order-kept c.inv;
    upright = inner-upright pre c;
    bends = bends-twice so pre c;
    counts = placed-as-due so pre;
    optimal = λ i l. best-then so pre (moment-of so pre i l.step);
    lasting = λ i l b q. last-bounded i l.step b q;
    within = drawing-within so pre;
  }

pub demand3 : (p : PlanData) → acceptable p ≡ true → Demand3 p (drawing_of p)
demand3 p e = subst (Demand3 p) (sym (drawing-is p)) (holds (sound p e) (kept p e))
