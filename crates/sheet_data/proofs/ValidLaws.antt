-- 13 of the remembered numbers and of the drawing, as the program tests it.
use mathlib.Core.Path.{◌≡◌, refl, sym, ◌∙◌}
use mathlib.Core.List.{List}
use mathlib.Core.Bool.{Bool, true, false}
use Prim.Native.Nat.{ℕ, ◌≤◌, ◌<◌}
use native.Mathlib.Omega.{arith}
use borrow.Author.Tests.{le-leb, lt-leb}
use lib.ListN.{length, take, length-take}
use lib.Seq.{length-take-le}
use Rattle.plan.specs.Limits.{max_vertices}
use Rattle.plan.specs.declared.data.Plan.{Plan}
use Rattle.passes.proofs.Sound.{sound}
use Rattle.plan_renumber.specs.inner.Own.{FewNumbers, Numbers}
use Rattle.passes.specs.Words.{max_listed}
use Rattle.report_validity.specs.inner.Stored.{is_stored_drawing, OfPlan, StoredLevels, StoredList}
use Rattle.report_validity.proofs.Drawn.{of-plan, levels-of}
use Rattle.report_validity.proofs.Stored.{stored_of}
use Rattle.report.specs.declared.data.Drawing.{Drawing as Arrays}
use Rattle.report.specs.declared.data.Counts.{Counts}
use Rattle.report.specs.Refusal13.{is_drawing_in}
use Rattle.sheet_data.specs.inner.Parts.{plan_with, is_plan_with, numbers_in, is_drawing_with}
use Rattle.sheet_data.proofs.Cuts.{PlanArrays, DrawingArrays, DrawingCut, plan-cut}

-- ---- the remembered numbers
module _ (p : Plan) (c : Counts) (h : is_plan_with p c ≡ true) where
  pub few-numbers : (m : List ℕ) → FewNumbers (take p.levels p.sizes) (numbers_in m c)
  few-numbers m =
      let s = stored_of p c.vertices c.segments h in
      record { levels = omega (arith, s.levels, length-take p.levels p.sizes); vertices = omega (arith, s.vertices, length-take c.vertices m) }

  pub its-numbers : PlanArrays p → (m : List ℕ) → length m ≡ max_vertices → Numbers (plan_with p c) (take p.levels p.sizes) (numbers_in m c)
  its-numbers a m e =
      let t = plan-cut a c h in
      record {
        sizes_are = refl;
        summed = (sound (plan_with p c) (stored_of p c.vertices c.segments h).plan).total;
        many = length-take-le c.vertices p.vias t.vias ∙ sym (length-take-le c.vertices m (omega (arith, t.few)));
      }

-- ---- the drawing
module _ (p : Plan) (d : Arrays) (c : Counts) where
  pub many-placings : max_listed < c.placings → is_drawing_with p d c ≡ false
  unfolding is_drawing_in
  many-placings h = rw (lt-leb c.placings max_listed h)

  pub few-placings : (r : Bool) → c.placings ≤ max_listed
      → r ≡ is_stored_drawing (plan_with p c) (take c.vertices d.preliminary) (take c.vertices d.finals) (take c.placings d.passes) (take c.placings d.levels) (take c.placings d.counts) d.vertices d.positions
      → r ≡ is_drawing_with p d c
  unfolding is_drawing_in
  few-placings r h e = rw (le-leb c.placings max_listed h) e

  pub stored-levels : is_plan_with p c ≡ true → StoredLevels (take p.levels p.sizes) (take c.vertices p.vias)
  stored-levels h = levels-of (plan_with p c) (stored_of p c.vertices c.segments h).plan

  pub stored-plan : is_plan_with p c ≡ true → OfPlan (plan_with p c) (take p.levels p.sizes) (take c.vertices p.vias)
  stored-plan h = of-plan (plan_with p c) (stored_of p c.vertices c.segments h).plan

  pub stored-list : DrawingArrays d → DrawingCut d c → StoredList (take c.placings d.passes) (take c.placings d.levels) (take c.placings d.counts) d.vertices d.positions
  stored-list a t =
      let q = length-take-le c.placings d.passes t.passes in
      record {
        placings = omega (arith, q, t.passes, a.passes);
        of_levels = length-take-le c.placings d.levels t.levels ∙ sym q;
        of_counts = length-take-le c.placings d.counts t.counts ∙ sym q;
        of_vertices = a.vertices;
        of_positions = a.positions;
      }
