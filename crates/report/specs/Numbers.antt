-- A drawing in remembered numbers: "The sheet remembers each vertex's number in the text. Report lines use those numbers, at-lines in
-- their order, placings left to right." A list m has the number of each vertex; the report is that of the drawing in these numbers.
-- A vertex and its number are on one level, so heights are those of the numbers.
use Rattle.std.specs.Prelude.{List, map, ℕ, get_or, ℤ}
use Rattle.plan_renumber.specs.Renumber.{inverse}
use Rattle.passes.specs.State.{position_of}
use Rattle.passes.specs.Drawing.{BoxAt, Placing, Drawing}

-- "at-lines in their order": the n-th position is that of the vertex remembered as n.
abbrev pub positions_by : List ℕ → List ℤ → List ℤ
positions_by m xs = map (position_of xs) (inverse m)

-- A box, named by its number.
abbrev pub box_by : List ℕ → BoxAt → BoxAt
box_by m b = record { vertex = get_or m b.vertex 0; position = b.position }

-- "placings left to right": in the order that they had.
abbrev pub placing_by : List ℕ → Placing → Placing
placing_by m q = record { pass = q.pass; level = q.level; boxes = map (box_by m) q.boxes }

abbrev pub in_numbers : List ℕ → Drawing → Drawing
in_numbers m d = record {
  preliminary = positions_by m d.preliminary;
  final = positions_by m d.final;
  placings = map (placing_by m) d.placings;
}
