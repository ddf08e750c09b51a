-- The untangled plan as it is stored, with the numbers of its vertices in the text.
use Rattle.std.specs.Prelude.{◌≡◌, List, ℕ, ◌≤◌, length, take}
use Rattle.plan.specs.Plan.{PlanData, vertex_count}
use Rattle.plan.specs.Stored.{plan_data}
use Rattle.plan.specs.declared.data.Plan.{Plan}
use Rattle.plan_untangle.specs.Order.{order, untangled}
use Rattle.text_write.specs.inner.Stored.{StoredPlan}

-- A stored plan, and a number for each of its vertices.
pub record WithNumbers (plan : Plan) (v e : ℕ) (m : List ℕ) : Type 0 where
  pub stored : StoredPlan plan v e
  pub reach : v ≤ length m

-- They are those of p untangled.
pub record IsUntangled (p : PlanData) (plan : Plan) (v e : ℕ) (m : List ℕ) : Type 0 where
  pub data_are : plan_data plan v e ≡ untangled p
  pub vertices : v ≡ vertex_count p
  pub numbers_are : take v m ≡ order p
