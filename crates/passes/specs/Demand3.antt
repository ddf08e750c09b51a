-- Demand 3: one claim about plan data and a drawing with its whole list.
use Rattle.std.specs.Prelude.{◌≡◌, true, List, ℕ, ◌≤◌, ◌<◌, length, ℤ}
use Rattle.plan.specs.Plan.{PlanData, vertex_count}
use Rattle.preliminary.specs.Positions.{preliminary}
use Rattle.passes.specs.Runs.{is_bounded}
use Rattle.passes.specs.State.{Step}
use Rattle.passes.specs.Drawing.{Drawing, listed, trace_of}
use Rattle.passes.specs.Words.{run_of, before, finished, keeps_order, inner_upright, bends_at_most_twice, placed_as_due, step_at, is_placement_then, sideways_then, drawing_within}

-- The i-th step's positions are a placement of its run, and "every other placement of that run with the same bounds and
-- distances has at least as great a total sideways length" to neighbours that stand at xs.
pub record Best (p : PlanData) (trace : List Step) (i : ℕ) (xs : List ℤ) : Type 0 where
  pub placement : is_placement_then p trace i (step_at trace i).positions ≡ true
  pub least :
      (ys : List ℤ)
      → is_placement_then p trace i ys ≡ true
      → sideways_then p (step_at trace i) xs (step_at trace i).positions ≤ sideways_then p (step_at trace i) xs ys

-- The i-th step is one of the list: its run has boxes.
pub record IsListed (p : PlanData) (trace : List Step) (i : ℕ) : Type 0 where
  pub step : i < length trace
  pub boxes : 0 < length (run_of p (step_at trace i)).boxes

pub record Demand3 (p : PlanData) (d : Drawing) : Type 0 where
  -- "the drawing's list equals that of document 01's three passes, in the same order"
  pub started : d.preliminary ≡ preliminary p
  pub made : d.placings ≡ listed p (trace_of p)
  pub ended : d.final ≡ finished p (trace_of p)
  -- Each vertex has a preliminary position and a final one.
  pub starts : length d.preliminary ≡ vertex_count p
  pub ends : length d.final ≡ vertex_count p
  -- "Every level keeps its order and distances."
  pub order : keeps_order p d.final ≡ true
  -- "Every inner stretch is upright,
  pub upright : inner_upright p d.final ≡ true
  -- and no cable bends more than twice."
  pub bends : bends_at_most_twice p d.final ≡ true
  -- "Every bounded run .. is placed exactly once, or never if it had no slack; every open run .. exactly twice."
  pub counts : placed_as_due p (trace_of p) ≡ true
  -- "For every placing in the list, every other placement .. has at least as great a total sideways length to the preceding
  -- level as that level stood then."
  pub optimal : (i : ℕ) → IsListed p (trace_of p) i → Best p (trace_of p) i (before p (trace_of p) i)
  -- "For bounded runs placed in the first two passes this holds against the finished drawing too."
  pub lasting :
      (i : ℕ)
      → IsListed p (trace_of p) i
      → is_bounded (run_of p (step_at (trace_of p) i)) ≡ true
      → (step_at (trace_of p) i).pass ≤ 2
      → Best p (trace_of p) i (finished p (trace_of p))
  -- "Every position lies within ±2^40", and the list within its limits.
  pub within : drawing_within d ≡ true
