-- What the inner functions promise. They take the parts of a sheet that they need.
use Rattle.std.specs.Prelude.{List, [], ◌∷◌, ℕ}
use Rattle.ints.specs.Refusals.{test, check, first_refusal}
use Rattle.plan.specs.declared.data.Plan.{Plan}
use Rattle.report.specs.declared.data.Counts.{Counts}
use Rattle.report.specs.declared.data.Drawing.{Drawing as Arrays}
use Rattle.report.specs.declared.data.NewDrawing.{NewDrawing}
use Rattle.sheet_data.specs.inner.Parts.{is_plan_with, are_own_with, is_drawing_with}
use Rattle.sheet.specs.declared.types.Stage.{Stage}
use Rattle.sheet.specs.declared.types.Stage.TheVariants.{Drawn}
use Rattle.sheet.specs.declared.types.Sheet.{Sheet}
use Rattle.sheet.specs.Sheet.{is_empty, is_drawn, vertices_in, segments_in, placings_in}

-- The counts of a stage; 0 where it has none.
abbrev pub counts_in : Stage → Counts
counts_in t = record { vertices = vertices_in t; segments = segments_in t; placings = placings_in t }

-- 13 of the plan or of the remembered numbers, else 0.
unfoldable pub plan_refusal : Plan → List ℕ → Counts → ℕ
plan_refusal p m c = first_refusal (check 13 (is_plan_with p c) ∷ check 13 (are_own_with p m c) ∷ [])

-- The number by which draw is refused, 0 if it is not.
unfoldable pub draw_refusal : Stage → Plan → List ℕ → ℕ
draw_refusal t p m = first_refusal (test 11 (is_empty t) ∷ check 13 (is_plan_with p (counts_in t)) ∷ check 13 (are_own_with p m (counts_in t)) ∷ [])

-- 13 of the plan, of the remembered numbers or of the drawing, else 0.
unfoldable pub data_refusal : Plan → List ℕ → Arrays → Counts → ℕ
data_refusal p m d c = first_refusal (check 13 (is_plan_with p c) ∷ check 13 (are_own_with p m c) ∷ check 13 (is_drawing_with p d c) ∷ [])

-- The number by which line, report, mark and marks are refused before 7 and 14, 0 if they are not.
unfoldable pub show_refusal : Stage → Plan → List ℕ → Arrays → ℕ
show_refusal t p m d =
    let c = counts_in t in
    first_refusal
    (test 11 (is_empty t) ∷ check 12 (is_drawn t) ∷ check 13 (is_plan_with p c) ∷ check 13 (are_own_with p m c) ∷ check 13 (is_drawing_with p d c) ∷ [])

-- A sheet with another drawing of its plan, as it lies in arrays.
abbrev pub with_drawing : Sheet → NewDrawing → Sheet
with_drawing s n = record {
  header = record {
    stage = Drawn (vertices_in s.header.stage) (segments_in s.header.stage) n.placings;
    tangled = s.header.tangled;
  };
  plan = s.plan;
  drawing = n.drawing;
  remembered = s.remembered;
}
