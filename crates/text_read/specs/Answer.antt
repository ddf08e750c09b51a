-- What reading a text answers: document 01's number of a refusal, or the plan, and how many vertices and segments there are.
use Rattle.std.specs.Prelude.{false, length, replicate}
use Rattle.ints.specs.Lists.{over}
use Rattle.ints.specs.Refusals.{Verdict, gives, refuses}
use Rattle.plan.specs.Limits.{max_levels, max_vertices, max_segments}
use Rattle.plan.specs.Plan.{PlanData, vertex_count}
use Rattle.plan.specs.Stored.{stored_plan}
use Rattle.plan.specs.declared.data.Plan.{Plan}
use Rattle.text.specs.Reading.{Reading, accepted, refused}
use Rattle.text_read.specs.declared.ReadText.{ReadText}

-- The data in arrays: 0 beyond them.
unfoldable pub plan_of : PlanData → Plan
plan_of p =
    stored_plan p.levels p.gap p.spacing (over p.sizes (replicate max_levels 0)) (over p.vias (replicate max_vertices false))
    (over p.halves (replicate max_vertices 0)) (over p.uppers (replicate max_segments 0)) (over p.lowers (replicate max_segments 0))
    (over p.ratings (replicate max_segments 0))

unfoldable pub answer_of : Reading → Verdict ReadText
answer_of (accepted p) = gives (record { vertices = vertex_count p; segments = length p.uppers; plan = plan_of p })
answer_of (refused n) = refuses n
