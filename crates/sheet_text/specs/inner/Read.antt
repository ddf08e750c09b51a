-- The plan as it was read, and what numbering a plan's arrays so asks and leaves.
use Rattle.std.specs.Prelude.{◌≡◌, Bool, true, List, ℕ, ◌+◌, ◌≤◌, length}
use Rattle.plan.specs.Limits.{max_vertices, max_segments}
use Rattle.plan.specs.Plan.{PlanData}
use Rattle.plan.specs.Segments.{segments_from}
use Rattle.plan.specs.Checks.{check3, rising}
use Rattle.plan.specs.declared.data.Plan.{Plan}
use Rattle.plan.specs.inner.Graph.{Below}
use Rattle.plan_renumber.specs.Renumber.{inverse, renumbered}
use Rattle.plan_renumber.specs.inner.Words.{Once, EachRated}
use Rattle.report.specs.declared.data.Counts.{Counts}
use Rattle.text.specs.Writing.{lines_of}
use Rattle.text_write.specs.inner.Stored.{StoredLimits}
use Rattle.sheet_data.specs.inner.Parts.{plan_with, numbers_in}

-- The plan that lies in the arrays, in its remembered numbers.
abbrev pub read_with : Plan → List ℕ → Counts → PlanData
read_with p m c = renumbered (plan_with p c) (inverse (numbers_in m c))

-- Each vertex's number, once, and a plan's lists for as many vertices.
pub record Numbered (m : List ℕ) (vias : List Bool) (halves uppers lowers ratings : List ℕ) : Type 0 where
  pub few : length m ≤ max_vertices
  pub once : Once (length m) m
  pub vias_long : length vias ≡ length m
  pub halves_long : length halves ≡ length m
  pub segments : length uppers ≤ max_segments
  pub ends : length uppers ≡ length lowers
  pub rise : rising (segments_from uppers lowers) ≡ true
  pub rated : EachRated uppers ratings
  pub upper : Below (length m) uppers
  pub lower : Below (length m) lowers

-- r holds the plan as it was read, whose text has as many lines as that of p; it is within the limits, and every segment goes one
-- level down.
pub record AsRead (p : Plan) (m : List ℕ) (c : Counts) (r : Plan) : Type 0 where
  pub is : plan_with r c ≡ read_with p m c
  pub lines : length (lines_of (plan_with r c)) ≡ p.levels + c.segments + 2
  pub limits : StoredLimits r c.vertices c.segments
  pub three : check3 (plan_with r c) ≡ true
