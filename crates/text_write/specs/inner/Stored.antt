-- A stored plan with the stage's counts: one within its limits, and one that is that of a text.
use Rattle.std.specs.Prelude.{◌≡◌, true, ℕ, ◌≤◌}
use Rattle.plan.specs.Limits.{max_levels, max_vertices, max_segments}
use Rattle.plan.specs.Stored.{plan_data}
use Rattle.plan.specs.Acceptable.{limits_hold, acceptable}
use Rattle.plan.specs.declared.data.Plan.{Plan}

pub record StoredLimits (p : Plan) (v e : ℕ) : Type 0 where
  pub levels : p.levels ≤ max_levels
  pub vertices : v ≤ max_vertices
  pub segments : e ≤ max_segments
  pub plan : limits_hold (plan_data p v e) ≡ true

pub record StoredPlan (p : Plan) (v e : ℕ) : Type 0 where
  pub levels : p.levels ≤ max_levels
  pub vertices : v ≤ max_vertices
  pub segments : e ≤ max_segments
  pub plan : acceptable (plan_data p v e) ≡ true
