-- How long a text can be: 20 bytes for the plan line, 8 for a level line and 10 for each vertex, 20 for a segment line with its rating
-- and 6 for the last. So the limit of 65,536 bytes never keeps out a plan within the limits.
use mathlib.Core.Path.{◌≡◌}
use mathlib.Core.Bool.{Bool, true, false}
use mathlib.Core.List.{List, [], ◌∷◌, map}
use mathlib.Core.Option.{Option, none, some}
use Prim.Native.Nat.{ℕ, ◌+◌, ◌*◌, ◌≤◌}
use native.Mathlib.Omega.{arith}
use borrow.Author.Tests.{ltb-true}
use lib.Dec.{ltb, leb}
use lib.ListN.{length, length-append}
use Rattle.ints.specs.Lists.{sum, concat}
use Rattle.ints.specs.Ratings.{max_rating}
use Rattle.plan.specs.Limits.{max_levels, max_gap, max_spacing, max_half_width, max_on_level, max_vertices}
use Rattle.plan.specs.Checks.{every}
use Rattle.ints.proofs.Tests.{and_left, and_right}
use Rattle.plan.proofs.LimitLaws.{within-most}
use Rattle.text.specs.Form.{Vertex, SegmentLine, Lines}
use Rattle.text.specs.Reading.{half_in_limit, row_in_limit, rating_in_limit}
use Rattle.text.proofs.TestLaws.{every_one}
use Rattle.text.proofs.DecimalLaws.{decimal-length}
use Rattle.text.proofs.WrittenLines.{vertex_text, row_text, rating_text, segment_text}
use Rattle.text.proofs.WrittenForm.{head_text, form_text}
use Rattle.text.proofs.PlanLimits.{LineLimits, ends_below, short_line}

vertex-short : (v : Vertex) → half_in_limit v ≡ true → length (vertex_text v) ≤ 10
unfolding vertex_text
vertex-short v h = go v.via v.half h
  where
    go : (b : Bool) (n : ℕ) → half_in_limit (record { via = b; half = n }) ≡ true → length (vertex_text (record { via = b; half = n })) ≤ 10
    go true n e = omega arith
    go false n e = let l = within-most 1 max_half_width n e in let d = decimal-length 2 n (omega arith) in simp length-append (omega arith)

vertices-short : (vs : List Vertex) → every half_in_limit vs ≡ true → length (concat (map vertex_text vs)) ≤ 10 * length vs
unfolding concat
vertices-short [] e = omega arith
vertices-short (v ∷ vs) e =
    let k = every_one half_in_limit v vs e in
    simp length-append (omega (arith, vertex-short v k.0, vertices-short vs k.1))

rows_short : (rows : List (List Vertex)) → every row_in_limit rows ≡ true → length (concat (map row_text rows)) ≤ 8 * length rows + 10 * sum (map length rows)
unfolding concat sum row_text
rows_short [] e = omega arith
rows_short (vs ∷ rows) e =
    let k = every_one row_in_limit vs rows e in
    let v = vertices-short vs (and_right (leb (length vs) max_on_level) (every half_in_limit vs) k.0) in
    simp length-append (omega (arith, rows_short rows k.1))

rating-short : (o : Option ℕ) → rating_in_limit o ≡ true → length (rating_text o) ≤ 4
rating-short none e = omega arith
rating-short (some w) e =
    let l = within-most 2 max_rating w e in
    let d = decimal-length 2 w (omega arith) in
    simp length-append (omega arith)

segments-short : (ss : List SegmentLine) → every short_line ss ≡ true → length (concat (map segment_text ss)) ≤ 20 * length ss
unfolding concat segment_text
segments-short [] e = omega arith
segments-short (s ∷ ss) e =
    let k = every_one short_line s ss e in
    let g = s.segment in
    let ends = and_left (ends_below g) (rating_in_limit s.rating) k.0 in
    let a = ltb-true g.upper max_vertices (and_left (ltb g.upper max_vertices) (ltb g.lower max_vertices) ends) in
    let b = ltb-true g.lower max_vertices (and_right (ltb g.upper max_vertices) (ltb g.lower max_vertices) ends) in
    let la = decimal-length 3 g.upper (omega arith) in
    let lb = decimal-length 3 g.lower (omega arith) in
    let lw = rating-short s.rating (and_right (ends_below g) (rating_in_limit s.rating) k.0) in
    simp length-append (omega (arith, segments-short ss k.1))

head-short : (k g s : ℕ) → k ≤ max_levels → g ≤ max_gap → s ≤ max_spacing → length (head_text k g s) ≤ 20
unfolding head_text
head-short k g s a b c =
    let la = decimal-length 1 k (omega arith) in
    let lb = decimal-length 2 g (omega arith) in
    let lc = decimal-length 4 s (omega arith) in
    simp length-append (omega arith)

pub form-short : (l : Lines) → LineLimits l → every short_line l.segments ≡ true → length (form_text l) ≤ 51738
unfolding form_text
form-short l h e =
    let k = within-most 1 max_levels l.levels h.levels in
    let head = head-short l.levels l.gap l.spacing k (within-most 1 max_gap l.gap h.gap) (within-most 1 max_spacing l.spacing h.spacing) in
    let rows = rows_short l.rows h.rows in
    let segments = segments-short l.segments e in
    simp length-append (omega (arith, h.counted, h.vertices, h.segments))
