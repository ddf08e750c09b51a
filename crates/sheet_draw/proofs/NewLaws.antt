-- What the draw of a stored plan asks for, and the arrays that it leaves.
use mathlib.Core.Path.{◌≡◌, refl, sym}
use mathlib.Core.Bool.{true}
use mathlib.Core.List.{List, [], ◌++◌}
use Prim.Native.Nat.{ℕ, ◌≤◌}
use native.Mathlib.Omega.{arith}
use lib.ListN.{length, take, drop, replicate}
use lib.Seq.{take_at, drop_at}
use lib.IntN.{ℤ, pos}
use Rattle.plan.specs.Limits.{max_vertices}
use Rattle.plan.specs.Plan.{PlanData}
use Rattle.plan.specs.declared.data.Plan.{Plan}
use Rattle.plan.proofs.Sound.{sound}
use Rattle.report_validity.proofs.Stored.{stored_of}
use Rattle.passes.specs.Drawing.{drawing_of}
use Rattle.passes.specs.Stored.{padded}
use Rattle.pass_list.proofs.Padded.{padded-write}
use Rattle.pass_draw.specs.inner.Made.{HoldsRated, Made}
use Rattle.report.specs.declared.data.Counts.{Counts}
use Rattle.report.specs.declared.data.NewDrawing.{NewDrawing}
use Rattle.report.specs.Arrays.{arrays_of}
use Rattle.sheet_data.specs.inner.Parts.{plan_with, is_plan_with, new_drawing, Draws}
use Rattle.sheet_data.proofs.Cuts.{PlanArrays}
use Rattle.sheet_data.proofs.ReadBack.{demand3-of}

-- ---- the plan's lists
pub plan-lists : (p : Plan) (c : Counts) → is_plan_with p c ≡ true
    → HoldsRated (plan_with p c) p.gap (take p.levels p.sizes) (take c.vertices p.vias) (take c.vertices p.halves)
    (take c.segments p.uppers) (take c.segments p.lowers) (take c.segments p.ratings)
plan-lists p c h =
    let s = stored_of p c.vertices c.segments h in
    record {
      lists = record {
        levels_are = sym (sound (plan_with p c) s.plan).limits.sizes_long;
        gap_is = refl;
        sizes_are = refl;
        vias_are = refl;
        halves_are = refl;
        uppers_are = refl;
        lowers_are = refl;
        ok = s.plan;
      };
      ratings_are = refl;
    }

-- ---- the arrays of a drawing just made
front-padded : (xs : List ℤ) (v : ℕ) → length xs ≡ v → v ≤ max_vertices → xs ++ drop v (replicate max_vertices (pos 0)) ≡ padded max_vertices (pos 0) xs
front-padded xs v e h =
    let rest = drop v (replicate max_vertices (pos 0)) in
    padded-write (pos 0) max_vertices [] xs (xs ++ rest) 0 v refl (omega arith) (omega arith) h (take_at xs rest v e) (drop_at xs rest v e)

pub new_is : (p : PlanData) (v n : ℕ) (preliminary finals : List ℤ) (passes levels counts vertices : List ℕ) (positions : List ℤ) → v ≤ max_vertices
    → length (drawing_of p).preliminary ≡ v → length (drawing_of p).final ≡ v → Made p n preliminary finals passes levels counts vertices positions
    → ◌≡◌ {A = NewDrawing} (record {
      drawing = record {
        preliminary = preliminary ++ drop v (replicate max_vertices (pos 0));
        finals = finals ++ drop v (replicate max_vertices (pos 0));
        passes = passes;
        levels = levels;
        counts = counts;
        vertices = vertices;
        positions = positions;
      };
      placings = n;
    }) (new_drawing (drawing_of p))
unfolding arrays_of
new_is p v n preliminary finals passes levels counts vertices positions h a b m =
    let l = m.list in
    rw (
      m.started,
      m.ended,
      front-padded (drawing_of p).preliminary v a h,
      front-padded (drawing_of p).final v b h,
      l.of_passes,
      l.of_levels,
      l.of_counts,
      l.of_vertices,
      l.of_positions,
      m.placings,
    )

pub draws : (p : Plan) → PlanArrays p → (c : Counts) → is_plan_with p c ≡ true → (r : NewDrawing) → r ≡ new_drawing (drawing_of (plan_with p c)) → Draws p c r
draws p a c h r e = record { is = e; demand3 = rw e (demand3-of p a c.vertices c.segments h) }
