-- What a sheet holds: its stage's counts, its plan's data, its drawing, and what it remembers of its loading.
use Rattle.std.specs.Prelude.{Bool, true, false, List, ℕ, length, take, replicate}
use Rattle.ints.specs.Lists.{over}
use Rattle.plan.specs.Limits.{max_vertices}
use Rattle.plan.specs.Plan.{PlanData, vertex_count, numbers}
use Rattle.plan.specs.Stored.{plan_data, empty_plan}
use Rattle.plan_untangle.specs.Order.{order, untangled}
use Rattle.text_read.specs.Answer.{plan_of}
use Rattle.passes.specs.Drawing.{Drawing}
use Rattle.report.specs.Arrays.{drawing_from, arrays_of, no_drawing}
use Rattle.sheet.specs.declared.types.Stage.{Stage}
use Rattle.sheet.specs.declared.types.Stage.TheVariants.{Empty, Loaded, Drawn}
use Rattle.sheet.specs.declared.types.Sheet.{Sheet}

-- "its stage: empty, loaded (with its vertex and segment counts), or drawn (with these and the count of placings)"
abbrev pub is_empty : Stage → Bool
is_empty Empty = true
is_empty (Loaded v e) = false
is_empty (Drawn v e k) = false

abbrev pub is_drawn : Stage → Bool
is_drawn Empty = false
is_drawn (Loaded v e) = false
is_drawn (Drawn v e k) = true

abbrev pub vertices_in : Stage → ℕ
vertices_in Empty = 0
vertices_in (Loaded v e) = v
vertices_in (Drawn v e k) = v

abbrev pub segments_in : Stage → ℕ
segments_in Empty = 0
segments_in (Loaded v e) = e
segments_in (Drawn v e k) = e

abbrev pub placings_in : Stage → ℕ
placings_in Empty = 0
placings_in (Loaded v e) = 0
placings_in (Drawn v e k) = k

-- The data of the plan.
abbrev pub plan_in : Sheet → PlanData
plan_in s = plan_data s.plan (vertices_in s.header.stage) (segments_in s.header.stage)

-- The drawing.
abbrev pub drawing_in : Sheet → Drawing
drawing_in s = drawing_from s.drawing (vertices_in s.header.stage) (placings_in s.header.stage)

-- "The sheet remembers each vertex's number in the text."
abbrev pub remembered_in : Sheet → List ℕ
remembered_in s = take (vertices_in s.header.stage) s.remembered

-- Numbers in the array of a sheet: 0 beyond them.
abbrev pub remembered_of : List ℕ → List ℕ
remembered_of m = over m (replicate max_vertices 0)

-- The one empty sheet.
unfoldable pub empty_sheet : Sheet
empty_sheet = record {
  header = record { stage = Empty; tangled = false };
  plan = empty_plan;
  drawing = arrays_of no_drawing;
  remembered = replicate max_vertices 0;
}

-- A sheet just loaded with a plan whose vertices have the numbers m in the text: 0 beyond its data, 0 in all positions and in the list.
unfoldable pub loaded_sheet : Bool → List ℕ → PlanData → Sheet
loaded_sheet tangled m p = record {
  header = record { stage = Loaded (vertex_count p) (length p.uppers); tangled = tangled };
  plan = plan_of p;
  drawing = arrays_of no_drawing;
  remembered = remembered_of m;
}

-- The two ways of loading: the plan as it was read; and the plan rearranged, of which the sheet remembers the order.
abbrev pub loaded_as_read : PlanData → Sheet
loaded_as_read p = loaded_sheet false (numbers 0 (vertex_count p)) p

abbrev pub loaded_untangled : PlanData → Sheet
loaded_untangled p = loaded_sheet true (order p) (untangled p)

-- A sheet with another drawing of its plan.
unfoldable pub drawn_sheet : Sheet → Drawing → Sheet
drawn_sheet s d = record {
  header = record {
    stage = Drawn (vertices_in s.header.stage) (segments_in s.header.stage) (length d.placings);
    tangled = s.header.tangled;
  };
  plan = s.plan;
  drawing = arrays_of d;
  remembered = s.remembered;
}
