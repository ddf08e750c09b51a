-- What the marks of a drawing that is not refused ask for is there, and its parts in arrays: the parts of its arrays that the counts cut off.
use mathlib.Core.Path.{◌≡◌, refl, sym, ◌∙◌}
use mathlib.Core.Bool.{true}
use mathlib.Core.List.{List, [], ◌∷◌, ◌++◌}
use Prim.Native.Nat.{ℕ, ◌*◌, ◌≤◌, ◌<◌}
use native.Mathlib.Omega.{arith}
use borrow.Author.Tests.{leb-true}
use lib.Dec.{leb}
use lib.ListN.{length, take, drop}
use lib.Seq.{length-take-le}
use lib.Ieee.{Float}
use Rattle.ints.specs.Lists.{sum}
use Rattle.ints.specs.Reach.{all_within}
use Rattle.plan.specs.Limits.{max_vertices, max_segments}
use Rattle.plan.specs.declared.data.Plan.{Plan}
use Rattle.plan.specs.Acceptable.{acceptable}
use Rattle.ints.proofs.Tests.{conj-at}
use Rattle.report_validity.proofs.Stored.{stored_of}
use Rattle.passes.specs.Words.{max_listed}
use Rattle.report.specs.Refusal13.{is_drawing, is_drawing_in}
use Rattle.report_lines.specs.inner.Stored.{Stored}
use Rattle.report_lines.proofs.ByNumber.{HasPart}
use Rattle.report_lines.proofs.Listed.{final-within}
use Rattle.report_lines.proofs.Printable.{Printable, printable}
use Rattle.report_lines.proofs.Rooms.{drawing-within}
use Rattle.marks.specs.Marks.{whole_mark_of, mark_count}
use Rattle.marks.specs.Exact.{ExactMark, ExactFive}
use Rattle.marks.specs.inner.Asked.{AskedAll, Asked, DataOf}
use Rattle.marks.proofs.Exact.{Fits}
use Rattle.marks.proofs.Acceptable.{asked-all, marks-fit, marks-exact, numbers-exact}
use Rattle.marks.proofs.All.{all-long}
use Rattle.report.specs.declared.data.Drawing.{Drawing as Arrays}
use Rattle.report.specs.declared.data.Counts.{Counts}
use Rattle.sheet_data.specs.inner.Parts.{plan_with, drawing_with, is_plan_with, Holds, marks_of, mark_with, numbers_with}
use Rattle.sheet_data.proofs.Cuts.{PlanArrays, DrawingArrays, PlanCut, DrawingCut, plan-cut, drawing-cut}

-- ---- as many vertices and segments as the counts say
module _ (p : Plan) (c : Counts) (h : is_plan_with p c ≡ true) (a : PlanArrays p) where
  vias_long : length (take c.vertices p.vias) ≡ c.vertices
  vias_long = length-take-le c.vertices p.vias (plan-cut a c h).vias

  uppers_long : length (take c.segments p.uppers) ≡ c.segments
  uppers_long = length-take-le c.segments p.uppers (plan-cut a c h).uppers

  pub marks-are : mark_count (plan_with p c) ≡ marks_of c
  marks-are = omega (arith, vias_long, uppers_long)

  -- so all marks have five numbers each
  pub numbers_long : (d : Arrays) → length (numbers_with p d c) ≡ 5 * marks_of c
  numbers_long d = omega (arith, all-long (plan_with p c) (drawing_with d c).final, vias_long, uppers_long)

module _ (p : Plan) (d : Arrays) (c : Counts) (h : Holds p d c) where
  pub plan-ok : acceptable (plan_with p c) ≡ true
  plan-ok = (stored_of p c.vertices c.segments h.plan).plan

  record Parts : Type 0 where
    pub placings : c.placings ≤ max_listed
    pub boxes : sum (take c.placings d.counts) ≤ max_listed
    pub drawing : is_drawing (plan_with p c) (drawing_with d c) ≡ true

  parts : Parts
  unfolding is_drawing_in
  parts =
      let t = conj-at (leb c.placings max_listed) (leb (sum (take c.placings d.counts)) max_listed ∷ is_drawing (plan_with p c) (drawing_with d c) ∷ []) h.drawing in
      record {
        placings = leb-true c.placings max_listed (t 0);
        boxes = leb-true (sum (take c.placings d.counts)) max_listed (t 1);
        drawing = t 2;
      }

  pub prints : Printable (plan_with p c) (drawing_with d c)
  prints = printable (plan_with p c) (drawing_with d c) plan-ok parts.drawing

  -- what the marks are made of is small enough for f64
  finals-near : all_within (drawing_with d c).final ≡ true
  finals-near = final-within (drawing_with d c) (drawing-within (plan_with p c) (drawing_with d c) parts.drawing)

  pub mark-fits : (n : ℕ) → Fits (whole_mark_of (plan_with p c) (drawing_with d c).final n)
  mark-fits n = marks-fit (plan_with p c) (drawing_with d c).final plan-ok finals-near n

  pub mark-exact : (n : ℕ) → ExactMark (whole_mark_of (plan_with p c) (drawing_with d c).final n) (mark_with p d c n)
  mark-exact n = marks-exact (plan_with p c) (drawing_with d c).final plan-ok finals-near n

  pub five-exact : PlanArrays p → (n : ℕ) (more : List Float) → n < marks_of c
      → ExactFive (whole_mark_of (plan_with p c) (drawing_with d c).final n) (drop (5 * n) (numbers_with p d c ++ more))
  five-exact a n more l =
      numbers-exact (plan_with p c) (drawing_with d c).final plan-ok finals-near n more (omega (arith, marks-are p c h.plan a))

  -- how many there are of each
  pub record Few : Type 0 where
    pub vertices : c.vertices ≤ max_vertices
    pub segments : c.segments ≤ max_segments
    pub placings : c.placings ≤ max_listed

  pub few : Few
  few = let s = stored_of p c.vertices c.segments h.plan in record { vertices = s.vertices; segments = s.segments; placings = parts.placings }

  module _ (a : PlanArrays p) (b : DrawingArrays d) where
    pub in-plan : PlanCut p c
    in-plan = plan-cut a c h.plan

    pub in-drawing : DrawingCut d c
    in-drawing = drawing-cut b c in-plan.few parts.placings

    pub preliminary-long : length (take c.vertices d.preliminary) ≡ c.vertices
    preliminary-long = length-take-le c.vertices d.preliminary in-drawing.preliminary

    pub passes-long : length (take c.placings d.passes) ≡ c.placings
    passes-long = length-take-le c.placings d.passes in-drawing.passes

    pub has_part : HasPart (plan_with p c) p.spacing (take p.levels p.sizes) (length (take c.vertices d.preliminary))
    has_part = record { of_spacing = refl; of_sizes = refl; of_vertices = length-take-le c.vertices p.vias in-plan.vias ∙ sym preliminary-long }

    pub stored : Stored (take c.vertices d.preliminary) (take c.vertices d.finals) (take c.placings d.passes) (take c.placings d.levels) (take c.placings d.counts) d.vertices d.positions
    stored = record {
      of_finals = length-take-le c.vertices d.finals in-drawing.finals ∙ sym preliminary-long;
      of_levels = length-take-le c.placings d.levels in-drawing.levels ∙ sym passes-long;
      of_counts = length-take-le c.placings d.counts in-drawing.counts ∙ sym passes-long;
      few = parts.boxes;
      of_vertices = omega (arith, parts.boxes, b.vertices);
      of_positions = omega (arith, parts.boxes, b.positions);
      within = drawing-within (plan_with p c) (drawing_with d c) parts.drawing;
    }

    -- ---- marks
    pub marks-asked : AskedAll p.spacing (take p.levels p.sizes) (take c.vertices p.vias) (take c.vertices p.halves) (take c.segments p.uppers) (take c.segments p.lowers) (take c.vertices d.finals)
    marks-asked =
        asked-all (plan_with p c) (take c.vertices d.finals) plan-ok finals-near
        (length-take-le c.vertices d.finals in-drawing.finals ∙ sym (vias_long p c h.plan a))

    pub mark-asked : (n : ℕ) → n < marks_of c
        → Asked p.spacing (take p.levels p.sizes) (take c.vertices p.vias) (take c.vertices p.halves) (take c.segments p.uppers) (take c.segments p.lowers) (take c.vertices d.finals) n
    mark-asked n l = record { lists = marks-asked; number = omega (arith, vias_long p c h.plan a, uppers_long p c h.plan a) }

  pub mark-data : DataOf (plan_with p c) p.spacing (take p.levels p.sizes) (take c.vertices p.vias) (take c.vertices p.halves) (take c.segments p.uppers) (take c.segments p.lowers)
  mark-data = refl
