-- A drawing in arrays.
use Rattle.std.specs.Prelude.{[], map, ℕ, length, take, pos}
use Rattle.plan.specs.Limits.{max_vertices}
use Rattle.passes.specs.Drawing.{BoxAt, Placing, Drawing}
use Rattle.passes.specs.Words.{boxes_listed, max_listed}
use Rattle.passes.specs.Stored.{padded, placings_from}
use Rattle.report.specs.declared.data.Drawing.{Drawing as Arrays}

-- The drawing that lies in the arrays: positions of v vertices, and k placings.
abbrev pub drawing_from : Arrays → ℕ → ℕ → Drawing
drawing_from d v k = record {
  preliminary = take v d.preliminary;
  final = take v d.finals;
  placings = placings_from (take k d.passes) (take k d.levels) (take k d.counts) d.vertices d.positions;
}

-- A drawing's arrays, 0 beyond it.
unfoldable pub arrays_of : Drawing → Arrays
arrays_of d = record {
  preliminary = padded max_vertices (pos 0) d.preliminary;
  finals = padded max_vertices (pos 0) d.final;
  passes = padded max_listed 0 (map (λ (q : Placing). q.pass) d.placings);
  levels = padded max_listed 0 (map (λ (q : Placing). q.level) d.placings);
  counts = padded max_listed 0 (map (λ (q : Placing). length q.boxes) d.placings);
  vertices = padded max_listed 0 (map (λ (b : BoxAt). b.vertex) (boxes_listed d.placings));
  positions = padded max_listed (pos 0) (map (λ (b : BoxAt). b.position) (boxes_listed d.placings));
}

abbrev pub no_drawing : Drawing
no_drawing = record { preliminary = []; final = []; placings = [] }
