-- What the draw of a stored plan into lent arrays asks and leaves.
use Rattle.std.specs.Prelude.{◌≡◌, true, List, ℕ, length, replicate, ℤ, pos}
use Rattle.plan.specs.Stored.{plan_data}
use Rattle.plan.specs.declared.data.Plan.{Plan}
use Rattle.report.specs.Refusal13.{is_stored_plan}
use Rattle.passes.specs.Words.{max_listed}
use Rattle.pass_draw.specs.inner.Made.{Made}

-- A plan of v vertices and e segments that is not refused, room for its positions, and the arrays of an empty list of placings.
pub record Blank (p : Plan) (v e : ℕ) (preliminary finals : List ℤ) (passes levels boxes vertices : List ℕ) (positions : List ℤ) : Type 0 where
  pub plan : is_stored_plan p v e ≡ true
  pub preliminary_room : length preliminary ≡ v
  pub final_room : length finals ≡ v
  pub no_passes : passes ≡ replicate max_listed 0
  pub no_levels : levels ≡ replicate max_listed 0
  pub no_boxes : boxes ≡ replicate max_listed 0
  pub no_vertices : vertices ≡ replicate max_listed 0
  pub no_positions : positions ≡ replicate max_listed (pos 0)

-- The arrays hold the plan's drawing, which lists n placings.
abbrev pub Drawn : Plan → ℕ → ℕ → ℕ → List ℤ → List ℤ → List ℕ → List ℕ → List ℕ → List ℕ → List ℤ → Type 0
Drawn p v e n preliminary finals passes levels boxes vertices positions =
    Made (plan_data p v e) n preliminary finals passes levels boxes vertices positions
