-- The limits of a plan's data and the limits of the lines of a text, fact by fact, and that they say the same: lines that
-- were read and pass check 2 store data within the limits, and the lines of such data can be read and pass check 2.
use mathlib.Core.Path.{◌≡◌, refl, sym, ◌∙◌, ap}
use mathlib.Core.Bool.{Bool, true, ◌&&◌}
use mathlib.Core.List.{List, [], ◌∷◌, map}
use mathlib.Core.Option.{Option, none, some}
use Prim.Native.Nat.{ℕ, ◌+◌, ◌≤◌, ◌<◌}
use native.Mathlib.Omega.{arith}
use borrow.Author.Tests.{leb-true, le-leb, eqb-true, eq-eqb, ltb-true, lt-ltb}
use lib.Dec.{ltb, leb, eqb}
use lib.ListN.{length, length-map}
use Rattle.ints.specs.Lists.{sum, concat}
use Rattle.ints.specs.Ratings.{max_rating}
use Rattle.ints.proofs.Lists.{concat-length}
use Rattle.plan.specs.Plan.{PlanData, vertex_count, level_of}
use Rattle.plan.specs.Segments.{Segment, segments_from, segments_of, rated_from, rated_of}
use Rattle.plan.specs.Limits.{within, max_levels, max_gap, max_spacing, max_on_level, max_vertices, max_segments}
use Rattle.plan.specs.Checks.{every, goes_one_down, check3}
use Rattle.ints.proofs.Tests.{and_left, and_right, conj-at, ◌and◌}
use Rattle.plan.proofs.LimitLaws.{LimitTests, within-most}
use Rattle.plan.proofs.RatedLaws.{rated-count}
use Rattle.plan.proofs.SegmentLaws.{segments-count}
use Rattle.text.specs.Form.{Vertex, SegmentLine, Lines}
use Rattle.text.specs.Reading.{half_in_limit, row_in_limit, rating_in_limit, rating_of, check2, stored}
use Rattle.text.proofs.TestLaws.{every-so, every-and}
use Rattle.text.proofs.DecimalLaws.{fits}
use Rattle.text.proofs.WrittenLines.{vertex_ok, rating_ok, segment_ok}
use Rattle.text.proofs.WrittenForm.{LinesOk}
use Rattle.text.proofs.PlanLines.{vertices_from, vertices-of, halves-hold, rows_from, rows_of, sizes-hold, order-holds, segment_line_from, ratings-hold, ratings-in-limit, lines_from, lines_stored}

-- ---- the limits of lines
pub record LineLimits (l : Lines) : Type 0 where
  pub levels : within 1 max_levels l.levels ≡ true
  pub gap : within 1 max_gap l.gap ≡ true
  pub spacing : within 1 max_spacing l.spacing ≡ true
  pub counted : length l.rows ≡ l.levels
  pub rows : every row_in_limit l.rows ≡ true
  pub vertices : sum (map length l.rows) ≤ max_vertices
  pub segments : length l.segments ≤ max_segments
  pub ratings : every (λ s. rating_in_limit s.rating) l.segments ≡ true

-- the tests of `check2` after the first
abbrev further_line_limits : Lines → List Bool
further_line_limits l =
    within 1 max_gap l.gap ∷ within 1 max_spacing l.spacing
    ∷ eqb (length l.rows) l.levels ∷ every row_in_limit l.rows
    ∷ leb (sum (map length l.rows)) max_vertices ∷ leb (length l.segments) max_segments
    ∷ every (λ s. rating_in_limit s.rating) l.segments ∷ []

pub check2-of : (l : Lines) → check2 l ≡ true → LineLimits l
unfolding check2
check2-of l h =
    let test = conj-at (within 1 max_levels l.levels) (further_line_limits l) h in
    record {
      levels = test 0;
      gap = test 1;
      spacing = test 2;
      counted = eqb-true (length l.rows) l.levels (test 3);
      rows = test 4;
      vertices = leb-true (sum (map length l.rows)) max_vertices (test 5);
      segments = leb-true (length l.segments) max_segments (test 6);
      ratings = test 7;
    }

pub check2-holds : (l : Lines) → LineLimits l → check2 l ≡ true
unfolding check2
check2-holds l h =
    h.levels and h.gap and h.spacing
    and eq-eqb (length l.rows) l.levels h.counted and h.rows
    and le-leb (sum (map length l.rows)) max_vertices h.vertices and le-leb (length l.segments) max_segments h.segments
    and h.ratings

-- ---- lines that were read, within the limits, store data within the limits
pub stored-limits : (l : Lines) → LinesOk l → LineLimits l → LimitTests (stored l)
unfolding stored
stored-limits l ok h =
    let all = concat l.rows in
    let count : length (map (λ (v : Vertex). v.via) all) ≡ length all = length-map all (λ v. v.via) in
    let low = sizes-hold (ltb 0) vertex_ok l.rows ok.rows in
    let high = sizes-hold (λ n. leb n max_on_level) half_in_limit l.rows h.rows in
    record {
      levels = h.levels;
      gap = h.gap;
      spacing = h.spacing;
      counted = length-map l.rows length ∙ h.counted;
      sizes = every-and (leb 1) (λ n. leb n max_on_level) (map length l.rows) low high;
      summed = sym (concat-length l.rows) ∙ sym count;
      vertices = omega (arith, h.vertices, concat-length l.rows, count);
      halves = halves-hold all (order-holds (ltb 0) vertex_ok l.rows ok.rows) (order-holds (λ n. leb n max_on_level) half_in_limit l.rows h.rows);
      ends = length-map l.segments (λ s. s.segment.lower) ∙ sym (length-map l.segments (λ s. s.segment.upper));
      segments = omega (arith, h.segments, length-map l.segments (λ s. s.segment.upper));
      rated = length-map l.segments (λ s. rating_of s.rating) ∙ sym (length-map l.segments (λ s. s.segment.upper));
      ratings = ratings-hold l.segments h.ratings;
    }

-- ---- and the lines of data within the limits can be read, and are within the limits
within-fits : (lo hi n : ℕ) → hi < 100000 → within lo hi n ≡ true → fits n ≡ true
within-fits lo hi n l h = lt-ltb n 100000 (omega (arith, within-most lo hi n h))

module _ (p : PlanData) (h : LimitTests p) where
  pub lines-stored-again : stored (lines_from p) ≡ p
  lines-stored-again = lines_stored p h.halves h.summed h.ends h.rated

  pub lines_ok : every segment_ok (map segment_line_from (rated_of p)) ≡ true → LinesOk (lines_from p)
  unfolding lines_from
  lines_ok s =
      let v = vertices-of p.vias p.halves h.halves in
      let r = rows_of p.sizes (vertices_from p.vias p.halves) (h.summed ∙ sym v.count) in
      record {
        levels = within-fits 1 max_levels p.levels (omega arith) h.levels;
        gap = within-fits 1 max_gap p.gap (omega arith) h.gap;
        spacing = within-fits 1 max_spacing p.spacing (omega arith) h.spacing;
        rows = r.hold (ltb 0) vertex_ok (every-so (within 1 max_on_level) (ltb 0) (λ n e. and_left (leb 1 n) (leb n max_on_level) e) p.sizes h.sizes) v.ok;
        segments = s;
      }

  pub lines-limits : LineLimits (lines_from p)
  unfolding lines_from segments_of rated_of
  lines-limits =
      let v = vertices-of p.vias p.halves h.halves in
      let r = rows_of p.sizes (vertices_from p.vias p.halves) (h.summed ∙ sym v.count) in
      let few : ℕ → Bool = λ n. leb n max_on_level in
      let ss = segments_from p.uppers p.lowers in
      let count = segments-count p.uppers p.lowers h.ends in
      record {
        levels = h.levels;
        gap = h.gap;
        spacing = h.spacing;
        counted = sym (length-map (rows_from p.sizes (vertices_from p.vias p.halves)) length) ∙ ap length r.sizes_again ∙ h.counted;
        rows = r.hold few half_in_limit (every-so (within 1 max_on_level) few (λ n e. and_right (leb 1 n) (leb n max_on_level) e) p.sizes h.sizes) v.in_limit;
        vertices = rw r.sizes_again (omega (arith, h.summed, h.vertices));
        segments = omega (arith, h.segments, count, length-map (rated_from ss p.ratings) segment_line_from, rated-count ss p.ratings (h.rated ∙ sym count));
        ratings = ratings-in-limit ss p.ratings h.ratings;
      }

-- ---- the ends of segments are vertices, if check 3 passes
abbrev pub ends_below : Segment → Bool
ends_below s = ltb s.upper max_vertices && ltb s.lower max_vertices

pub ends-below : (p : PlanData) → length p.vias ≤ max_vertices → check3 p ≡ true → every ends_below (segments_of p) ≡ true
unfolding check3
ends-below p l e = every-so (goes_one_down p) ends_below below (segments_of p) e
  where
    below : (s : Segment) → goes_one_down p s ≡ true → ends_below s ≡ true
    below s h =
        let test = conj-at (ltb s.upper (vertex_count p)) (ltb s.lower (vertex_count p) ∷ eqb (level_of p s.lower) (level_of p s.upper + 1) ∷ []) h in
        let a = ltb-true s.upper (vertex_count p) (test 0) in
        let b = ltb-true s.lower (vertex_count p) (test 1) in
        lt-ltb s.upper max_vertices (omega arith) and lt-ltb s.lower max_vertices (omega arith)

rating-ok : (o : Option ℕ) → rating_in_limit o ≡ true → rating_ok o ≡ true
rating-ok none e = refl
rating-ok (some w) e = within-fits 2 max_rating w (omega arith) e

-- a line whose numbers can be read
abbrev pub short_line : SegmentLine → Bool
short_line s = ends_below s.segment && rating_in_limit s.rating

pub ends-ok : (ss : List SegmentLine) → every short_line ss ≡ true → every segment_ok ss ≡ true
ends-ok ss e = every-so short_line segment_ok ok ss e
  where
    ok : (s : SegmentLine) → short_line s ≡ true → segment_ok s ≡ true
    ok s h =
        let g = s.segment in
        let ends = and_left (ends_below g) (rating_in_limit s.rating) h in
        let a = ltb-true g.upper max_vertices (and_left (ltb g.upper max_vertices) (ltb g.lower max_vertices) ends) in
        let b = ltb-true g.lower max_vertices (and_right (ltb g.upper max_vertices) (ltb g.lower max_vertices) ends) in
        lt-ltb g.upper 100000 (omega arith) and lt-ltb g.lower 100000 (omega arith)
        and rating-ok s.rating (and_right (ends_below g) (rating_in_limit s.rating) h)
