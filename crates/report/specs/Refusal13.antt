-- 13: "The plan, with the stage's vertex and segment counts, is that of no text that passes checks 1 to 6; for line and mark also a
-- position outside ±2^40, a listed pass other than 1 to 3, a placing whose level and boxes are no nonempty run of the plan, or
-- more than 2,048 placings or boxes in the placings." A sheet may have been handed in with any contents.
use Rattle.std.specs.Prelude.{Bool, true, false, cond, ◌&&◌, List, [], ◌∷◌, map, ℕ, eqb, leb, length, take}
use Rattle.ints.specs.Lists.{sum}
use Rattle.plan.specs.Plan.{PlanData}
use Rattle.plan.specs.Limits.{max_vertices, max_segments, within}
use Rattle.plan.specs.Stored.{plan_data}
use Rattle.plan.specs.declared.data.Plan.{Plan}
use Rattle.plan.specs.Checks.{every, any}
use Rattle.text.specs.Reading.{Reading, accepted, refused, reading}
use Rattle.text.specs.Writing.{text_of}
use Rattle.passes.specs.Runs.{Run, runs_of}
use Rattle.passes.specs.Drawing.{BoxAt, Placing, Drawing}
use Rattle.passes.specs.Words.{drawing_within, max_listed}
use Rattle.report.specs.declared.data.Drawing.{Drawing as Arrays}
use Rattle.report.specs.Arrays.{drawing_from}

-- Whether two plans' data are the same.
unfoldable pub same_numbers : List ℕ → List ℕ → Bool
same_numbers [] [] = true
same_numbers [] (n ∷ ns) = false
same_numbers (m ∷ ms) [] = false
same_numbers (m ∷ ms) (n ∷ ns) =
    let more = same_numbers ms ns in
    cond (eqb m n) more false

unfoldable pub same_kinds : List Bool → List Bool → Bool
same_kinds [] [] = true
same_kinds [] (n ∷ ns) = false
same_kinds (m ∷ ms) [] = false
same_kinds (true ∷ ms) (n ∷ ns) = cond n (same_kinds ms ns) false
same_kinds (false ∷ ms) (n ∷ ns) = cond n false (same_kinds ms ns)

unfoldable pub same_data : PlanData → PlanData → Bool
same_data p q =
    eqb p.levels q.levels && eqb p.gap q.gap && eqb p.spacing q.spacing
    && same_numbers p.sizes q.sizes && same_kinds p.vias q.vias && same_numbers p.halves q.halves
    && same_numbers p.uppers q.uppers && same_numbers p.lowers q.lowers && same_numbers p.ratings q.ratings

abbrev pub reads_as : Reading → PlanData → Bool
reads_as (accepted q) p = same_data q p
reads_as (refused n) p = false

-- 13, of a plan: it is "that of no text that passes checks 1 to 6" unless the text written of its data reads as these data.
unfoldable pub is_plan_of_text : PlanData → Bool
is_plan_of_text p = reads_as (reading (text_of p)) p

-- 13, of a stored plan with v vertices and e segments: whether it is that of a text that passes checks 1 to 6. Its arrays have
-- the data of no more than 1,024 vertices and 2,048 segments, and no text has more.
unfoldable pub is_stored_plan : Plan → ℕ → ℕ → Bool
is_stored_plan p v e = leb v max_vertices && leb e max_segments && is_plan_of_text (plan_data p v e)

-- "a listed pass other than 1 to 3"
abbrev pub is_pass : Placing → Bool
is_pass q = within 1 3 q.pass

-- "a placing whose level and boxes are no nonempty run of the plan"
abbrev pub is_of_run : Placing → Run → Bool
is_of_run q r = eqb q.level r.level && same_numbers (map (λ (b : BoxAt). b.vertex) q.boxes) r.boxes

unfoldable pub is_run_of_plan : PlanData → Placing → Bool
is_run_of_plan p q = leb 1 (length q.boxes) && any (is_of_run q) (runs_of p)

-- Whether a drawing of the plan is one that is not refused: its positions, listed ones too, lie within ±2^40, there are no "more
-- than 2,048 placings or boxes in the placings", and each placing is of a pass and of a run. It need not be one that a draw makes.
unfoldable pub is_drawing : PlanData → Drawing → Bool
is_drawing p d = drawing_within d && every is_pass d.placings && every (is_run_of_plan p) d.placings

-- 13, "for line and mark also a position outside ±2^40, a listed pass other than 1 to 3, a placing whose level and boxes are no
-- nonempty run of the plan, or more than 2,048 placings or boxes in the placings": of v vertices, e segments and k placings.
unfoldable pub is_drawing_in : Plan → Arrays → ℕ → ℕ → ℕ → Bool
is_drawing_in p d v e k = leb k max_listed && leb (sum (take k d.counts)) max_listed && is_drawing (plan_data p v e) (drawing_from d v k)
