-- What the draw of a plan's lists, as far as its positions are asked for, asks and leaves.
use Rattle.std.specs.Prelude.{◌≡◌, Bool, List, ℕ, length, ℤ}
use Rattle.plan.specs.Plan.{PlanData}
use Rattle.pass_draw.specs.inner.Made.{SomeRated}
use Rattle.passes.specs.Drawing.{drawing_of}

-- The lists of a plan that passes the checks, and room for its positions.
pub record PositionsRoom (gap : ℕ) (sizes : List ℕ) (vias : List Bool) (halves uppers lowers ratings : List ℕ) (preliminary finals : List ℤ) : Type 0 where
  pub some : SomeRated gap sizes vias halves uppers lowers ratings
  pub preliminary_room : length preliminary ≡ length vias
  pub final_room : length finals ≡ length vias

-- These are the positions of the plan's drawing.
pub record Placed (p : PlanData) (preliminary finals : List ℤ) : Type 0 where
  pub started : preliminary ≡ (drawing_of p).preliminary
  pub ended : finals ≡ (drawing_of p).final
