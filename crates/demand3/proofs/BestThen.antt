-- Each listed placing is a placement of least sideways length, as the preceding level stood then. Assumes nothing.
use mathlib.Core.Path.{◌≡◌, sym, ◌∙◌, ap}
use mathlib.Core.Bool.{true, ◌&&◌}
use mathlib.Core.List.{List}
use Prim.Native.Nat.{ℕ}
use native.Mathlib.Omega.{arith}
use lib.Dec.{eqb}
use borrow.Author.Tests.{eqb-true}
use lib.ListN.{length}
use lib.IntN.{ℤ}
use Rattle.run.specs.Words.{sideways_length}
use Rattle.ints.proofs.Tests.{and_left}
use Rattle.plan.specs.Plan.{PlanData}
use Rattle.plan.specs.Segments.{rated_of}
use Rattle.passes.specs.Runs.{Run, members}
use Rattle.passes.specs.State.{Step}
use Rattle.passes.specs.Passes.{boxes_at, placed}
use Rattle.passes.specs.Drawing.{trace_of}
use Rattle.passes.specs.Words.{run_of, before, step_at, distances_then, far_apart, is_placement_then, sideways_sum, sideways_then}
use Rattle.passes.specs.Demand3.{Best}
use Rattle.passes.proofs.Sound.{Sound}
use Rattle.passes.proofs.Spaced.{is_placement_in, in_force, standing, placement-is}
use Rattle.passes.proofs.Placing.{placed-optimal, placed-length, boxes-length}
use Rattle.passes.specs.inner.Schedule.{schedule, start}
use Rattle.passes.proofs.Moments.{Moment, then, step, final-trace, step_is, before-is, visit-run, reached_then, run_is}
use Rattle.passes.proofs.Distances.{force-then}
use Rattle.demand3.proofs.Sideways.{sum_is}
use Rattle.passes.proofs.Preliminary.{Preliminary}

module _ {p : PlanData} (so : Sound p) (pre : Preliminary p) {n : ℕ} (m : Moment p (schedule p) (start p) n) where
  pub step_at-is : step_at (trace_of p) n ≡ step m
  step_at-is = ap (λ ts. step_at ts n) (final-trace p) ∙ step_is m

  -- the words' placements are place-run's
  pub then_is : (ys : List ℤ) → is_placement_then p (trace_of p) n ys ≡ is_placement_in p m.visit.pass (then m) m.visit.run ys
  unfolding is_placement_then
  then_is ys = at-step (step_at (trace_of p) n) (before p (trace_of p) n) step_at-is (before-is so pre m) ∙ sym (placement-is (visit-run so pre m) m.visit.pass (then m) ys)
    where
      at-step : (s : Step) (xs : List ℤ) → s ≡ step m → xs ≡ (then m).at
          → eqb (length ys) (length (run_of p s).boxes) && far_apart (distances_then p (trace_of p) s) (standing xs (run_of p s) ys)
          ≡ eqb (length ys) (length m.visit.run.boxes) && far_apart (in_force (then m).apart (members m.visit.run)) (standing (then m).at m.visit.run ys)
      at-step s xs e f = rw (e, f, force-then so pre m, run_is so pre m)

  -- and so are their lengths
  pub length-is : (ys : List ℤ) → length ys ≡ (visit-run so pre m).count → sideways_then p (step m) (then m).at ys ≡ sideways_length (boxes_at p m.visit.pass (then m) m.visit.run.boxes) ys
  unfolding sideways_then
  length-is ys e = let i = visit-run so pre m in ap (λ (r : Run). sideways_sum m.visit.pass r.boxes ys (then m).at (rated_of p)) (run_is so pre m)
      ∙ rw i.boxes (sum_is p m.visit.pass (then m) i.first i.count ys e)

  pub then-length : (ys : List ℤ) → is_placement_then p (trace_of p) n ys ≡ true → length ys ≡ (visit-run so pre m).count
  then-length ys e = let f = sym (placement-is (visit-run so pre m) m.visit.pass (then m) ys) ∙ sym (then_is ys) ∙ e in eqb-true (length ys) (length m.visit.run.boxes) (and_left _ _ f) ∙ boxes-length (visit-run so pre m)

  pub best-then : Best p (trace_of p) n (before p (trace_of p) n)
  best-then = let i = visit-run so pre m in let q = m.visit.pass in let o = placed-optimal so (reached_then so pre m).inv i q in record {
    placement = ap (λ (s : Step). is_placement_then p (trace_of p) n s.positions) step_at-is ∙ then_is (placed p q (then m) m.visit.run) ∙ o.placement;
    least = λ ys e. rw (step_at-is, before-is so pre m) (omega (arith, length-is (placed p q (then m) m.visit.run) (placed-length q (then m) i), length-is ys (then-length ys e), o.least ys (sym (then_is ys) ∙ e)));
  }
