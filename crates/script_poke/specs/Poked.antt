-- "poke S .. alters the stored record, for sheets handed in": one entry of the record, whatever it held and whatever the others
-- hold; "indexes from 0, within what the record holds", else nothing is altered.
use Rattle.std.specs.Prelude.{Bool, true, false, cond, ◌&&◌, List, ℕ, ◌+◌, min, ltb, take, set, get_or, ℤ}
use Rattle.ints.specs.Lists.{sum}
use Rattle.plan.specs.Limits.{max_levels, max_vertices, max_segments}
use Rattle.plan.specs.declared.data.Plan.{Plan}
use Rattle.plan.specs.Stored.{stored_plan}
use Rattle.passes.specs.Words.{max_listed}
use Rattle.report.specs.declared.data.Drawing.{Drawing}
use Rattle.sheet.specs.declared.types.Sheet.{Sheet}
use Rattle.sheet.specs.declared.types.Stage.{Stage}
use Rattle.sheet.specs.declared.types.Stage.TheVariants.{Empty as NoPlan, Loaded as HasPlan, Drawn as HasDrawing}
use Rattle.script_commands.specs.declared.types.Poke.{Poke}
use Rattle.script_commands.specs.declared.types.Poke.TheVariants.{Empty, Loaded, Drawn, Levels, Gap, Spacing, Size, Vertex, Segment}
use Rattle.script_commands.specs.declared.types.Poke.TheVariants.{Remembered, Tangled, Preliminary, Final, Pass, Level, Listed}
use Rattle.script_poke.specs.declared.types.Poked.{Poked}

-- Altered, or not: the record has no such entry.
abbrev pub altered : Sheet → Poked
altered s = record { known = true; sheet = s }

abbrev pub unknown : Sheet → Poked
unknown s = record { known = false; sheet = s }

abbrev pub altered_if : Bool → Sheet → Sheet → Poked
altered_if has new s = cond has (altered new) (unknown s)

-- A number as a field of 16 or of 32 bits holds it. What exceeds the field is stored as its greatest: every limit lies far below.
abbrev pub in16 : ℕ → ℕ
in16 n = min n 65535

abbrev pub in32 : ℕ → ℕ
in32 n = min n 4294967295

-- A sheet with another stage, way of loading, plan or drawing, or with other remembered numbers.
abbrev pub with_stage : Sheet → Stage → Sheet
with_stage s t =
    record { header = record { stage = t; tangled = s.header.tangled }; plan = s.plan; drawing = s.drawing; remembered = s.remembered }

abbrev pub with_tangled : Sheet → Bool → Sheet
with_tangled s t =
    record { header = record { stage = s.header.stage; tangled = t }; plan = s.plan; drawing = s.drawing; remembered = s.remembered }

abbrev pub with_plan : Sheet → Plan → Sheet
with_plan s p = record { header = s.header; plan = p; drawing = s.drawing; remembered = s.remembered }

abbrev pub with_drawing : Sheet → Drawing → Sheet
with_drawing s d = record { header = s.header; plan = s.plan; drawing = d; remembered = s.remembered }

abbrev pub with_remembered : Sheet → List ℕ → Sheet
with_remembered s m = record { header = s.header; plan = s.plan; drawing = s.drawing; remembered = m }

abbrev pub with_limits : Plan → ℕ → ℕ → ℕ → Plan
with_limits p k g s = stored_plan k g s p.sizes p.vias p.halves p.uppers p.lowers p.ratings

abbrev pub with_size : Plan → ℕ → ℕ → Plan
with_size p i n =
    stored_plan p.levels p.gap p.spacing (set p.sizes i n) p.vias p.halves p.uppers p.lowers p.ratings

abbrev pub with_vertex : Plan → ℕ → Bool → ℕ → Plan
with_vertex p i via half =
    stored_plan p.levels p.gap p.spacing p.sizes (set p.vias i via) (set p.halves i half) p.uppers p.lowers p.ratings

abbrev pub with_segment : Plan → ℕ → ℕ → ℕ → ℕ → Plan
with_segment p i a b w =
    stored_plan p.levels p.gap p.spacing p.sizes p.vias p.halves (set p.uppers i a) (set p.lowers i b) (set p.ratings i w)

abbrev pub drawing : List ℤ → List ℤ → List ℕ → List ℕ → List ℕ → List ℕ → List ℤ → Drawing
drawing pre fin passes levels counts vertices positions =
    record { preliminary = pre; finals = fin; passes = passes; levels = levels; counts = counts; vertices = vertices; positions = positions }

abbrev pub with_positions : Drawing → List ℤ → List ℤ → Drawing
with_positions d pre fin = drawing pre fin d.passes d.levels d.counts d.vertices d.positions

abbrev pub with_placings : Drawing → List ℕ → List ℕ → Drawing
with_placings d passes levels = drawing d.preliminary d.finals passes levels d.counts d.vertices d.positions

abbrev pub with_listed : Drawing → ℕ → ℕ → ℤ → Drawing
with_listed d i v x = drawing d.preliminary d.finals d.passes d.levels d.counts (set d.vertices i v) (set d.positions i x)

-- Where box b of placing q stands among all boxes, by how many each placing has, and whether the record has it.
abbrev pub place_of : List ℕ → ℕ → ℕ → ℕ
place_of counts q b = sum (take q counts) + b

abbrev pub has_box : List ℕ → ℕ → ℕ → Bool
has_box counts q b = ltb q max_listed && ltb b (get_or counts q 0) && ltb (place_of counts q b) max_listed

unfoldable pub poke : Poke → Sheet → Poked
poke Empty s = altered (with_stage s NoPlan)
poke (Loaded v e) s = altered (with_stage s (HasPlan v e))
poke (Drawn v e p) s = altered (with_stage s (HasDrawing v e p))
poke (Levels k) s = altered (with_plan s (with_limits s.plan (in32 k) s.plan.gap s.plan.spacing))
poke (Gap g) s = altered (with_plan s (with_limits s.plan s.plan.levels (in32 g) s.plan.spacing))
poke (Spacing n) s = altered (with_plan s (with_limits s.plan s.plan.levels s.plan.gap (in32 n)))
poke (Size i n) s = altered_if (ltb i max_levels) (with_plan s (with_size s.plan i (in16 n))) s
poke (Vertex i via half) s = altered_if (ltb i max_vertices) (with_plan s (with_vertex s.plan i via (in16 half))) s
poke (Segment i a b w) s = altered_if (ltb i max_segments) (with_plan s (with_segment s.plan i (in32 a) (in32 b) (in32 w))) s
poke (Remembered i n) s = altered_if (ltb i max_vertices) (with_remembered s (set s.remembered i (in16 n))) s
poke (Tangled t) s = altered (with_tangled s t)
poke (Preliminary i x) s = altered_if (ltb i max_vertices) (with_drawing s (with_positions s.drawing (set s.drawing.preliminary i x) s.drawing.finals)) s
poke (Final i x) s = altered_if (ltb i max_vertices) (with_drawing s (with_positions s.drawing s.drawing.preliminary (set s.drawing.finals i x))) s
poke (Pass i n) s = altered_if (ltb i max_listed) (with_drawing s (with_placings s.drawing (set s.drawing.passes i (in16 n)) s.drawing.levels)) s
poke (Level i n) s = altered_if (ltb i max_listed) (with_drawing s (with_placings s.drawing s.drawing.passes (set s.drawing.levels i (in16 n)))) s
poke (Listed q b v x) s = altered_if (has_box s.drawing.counts q b) (with_drawing s (with_listed s.drawing (place_of s.drawing.counts q b) (in16 v) x)) s
