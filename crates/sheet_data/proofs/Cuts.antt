-- The arrays of a plan and of its drawing, and the parts of them that the counts cut off.
use mathlib.Core.Path.{◌≡◌}
use mathlib.Core.Bool.{true}
use Prim.Native.Nat.{◌≤◌}
use native.Mathlib.Omega.{arith}
use lib.ListN.{length}
use Rattle.plan.specs.Limits.{max_levels, max_vertices, max_segments}
use Rattle.plan.specs.declared.data.Plan.{Plan}
use Rattle.passes.specs.Words.{max_listed}
use Rattle.report_validity.proofs.Stored.{stored_of}
use Rattle.report.specs.declared.data.Drawing.{Drawing as Arrays}
use Rattle.report.specs.declared.data.Counts.{Counts}
use Rattle.sheet_data.specs.inner.Parts.{is_plan_with}

-- How long the arrays of a plan and of a drawing are.
pub record PlanArrays (p : Plan) : Type 0 where
  pub sizes : length p.sizes ≡ max_levels
  pub vias : length p.vias ≡ max_vertices
  pub halves : length p.halves ≡ max_vertices
  pub uppers : length p.uppers ≡ max_segments
  pub lowers : length p.lowers ≡ max_segments
  pub ratings : length p.ratings ≡ max_segments

pub record DrawingArrays (d : Arrays) : Type 0 where
  pub preliminary : length d.preliminary ≡ max_vertices
  pub finals : length d.finals ≡ max_vertices
  pub passes : length d.passes ≡ max_listed
  pub levels : length d.levels ≡ max_listed
  pub counts : length d.counts ≡ max_listed
  pub vertices : length d.vertices ≡ max_listed
  pub positions : length d.positions ≡ max_listed

-- They are as long as what they hold.
pub record PlanCut (p : Plan) (c : Counts) : Type 0 where
  pub sizes : p.levels ≤ length p.sizes
  pub vias : c.vertices ≤ length p.vias
  pub halves : c.vertices ≤ length p.halves
  pub uppers : c.segments ≤ length p.uppers
  pub lowers : c.segments ≤ length p.lowers
  pub ratings : c.segments ≤ length p.ratings
  pub few : c.vertices ≤ max_vertices

pub record DrawingCut (d : Arrays) (c : Counts) : Type 0 where
  pub preliminary : c.vertices ≤ length d.preliminary
  pub finals : c.vertices ≤ length d.finals
  pub passes : c.placings ≤ length d.passes
  pub levels : c.placings ≤ length d.levels
  pub counts : c.placings ≤ length d.counts

pub plan-cut : {p : Plan} → PlanArrays p → (c : Counts) → is_plan_with p c ≡ true → PlanCut p c
plan-cut {p} a c h =
    let s = stored_of p c.vertices c.segments h in
    record {
      sizes = omega (arith, s.levels, a.sizes);
      vias = omega (arith, s.vertices, a.vias);
      halves = omega (arith, s.vertices, a.halves);
      uppers = omega (arith, s.segments, a.uppers);
      lowers = omega (arith, s.segments, a.lowers);
      ratings = omega (arith, s.segments, a.ratings);
      few = s.vertices;
    }

pub drawing-cut : {d : Arrays} → DrawingArrays d → (c : Counts) → c.vertices ≤ max_vertices → c.placings ≤ max_listed → DrawingCut d c
drawing-cut a c v k = record {
  preliminary = omega (arith, a.preliminary);
  finals = omega (arith, a.finals);
  passes = omega (arith, a.passes);
  levels = omega (arith, a.levels);
  counts = omega (arith, a.counts);
}
