-- What the program finds and stores of a text's lines. A store past the end of an array leaves it as it is (`sets`), so that
-- the limits can be asked after the whole text was read.
use Rattle.std.specs.Prelude.{◌≡◌, Bool, true, false, cond, ◌&&◌, List, ◌∷◌, map, ℕ, suc, ◌+◌, ◌≤◌, leb, length, drop}
use Rattle.std.proofs.Math.Option.{Option, none, some}
use Rattle.std.proofs.lemmas.List.Edits.{sets}
use Rattle.ints.specs.Lists.{over, concat}
use Rattle.plan.specs.Plan.{PlanData}
use Rattle.plan.specs.Checks.{every}
use Rattle.plan.specs.Limits.{max_levels, max_vertices, max_segments}
use Rattle.text.specs.Bytes.{bytes}
use Rattle.text.specs.Parser.{got, nothing, Rule, give, ◌>>=◌, ◌>>◌, word, many}
use Rattle.text.specs.Form.{Vertex, SegmentLine, Lines, level_line, segment_line, form_of}
use Rattle.text.specs.Reading.{max_bytes, half_in_limit, row_in_limit, rating_in_limit, rating_of, check2, stored}
use Rattle.text_scan.specs.inner.Scanned.{vertex, header_in_limits}
use Rattle.text_scan.specs.declared.scanners.FoundHeader.{FoundHeader}
use Rattle.text_read.specs.declared.form.Row.{Row}
use Rattle.text_read.specs.declared.form.Rows.{Rows}
use Rattle.text_read.specs.declared.form.Segments.{Segments}
use Rattle.text_read.specs.declared.form.Scanned.{Scanned}

abbrev pub vias_of : List Vertex → List Bool
vias_of = map (λ v. v.via)

abbrev pub halves_of : List Vertex → List ℕ
halves_of = map (λ v. v.half)

abbrev pub uppers_of : List SegmentLine → List ℕ
uppers_of = map (λ s. s.segment.upper)

abbrev pub lowers_of : List SegmentLine → List ℕ
lowers_of = map (λ s. s.segment.lower)

abbrev pub ratings_of : List SegmentLine → List ℕ
ratings_of = map (λ s. rating_of s.rating)

-- The vertices from `at` on, as many as there are, stored from place `first` on.
pub record FindsRow (s : List ℕ) (at first : ℕ) (r : Row) (vias : List Bool) (halves : List ℕ) (vias' : List Bool) (halves' : List ℕ) : Type 0 where
  pub vertices : List Vertex
  pub gives : many (suc (length s)) vertex (drop at s) ≡ got vertices (drop r.next s)
  pub inside : r.next ≤ length s
  pub counted : r.count ≡ length vertices
  pub onward : at + r.count ≤ r.next
  pub fit : r.fit ≡ every half_in_limit vertices
  pub vias_stored : vias' ≡ sets vias first (vias_of vertices)
  pub halves_stored : r.fit ≡ true → halves' ≡ sets halves first (halves_of vertices)

-- What follows "(level" in a level line. n is at least the number of vertices.
unfoldable pub level_rest : ℕ → Rule (List Vertex)
level_rest n = do
  v ← vertex
  vs ← many n vertex
  word (bytes ")\n")
  give (v ∷ vs)

-- A level line from past its "(level" on, its vertices stored from place `first` on.
pub record FindsLevel (s : List ℕ) (at first : ℕ) (r : Row) (vias : List Bool) (halves : List ℕ) (vias' : List Bool) (halves' : List ℕ) : Type 0 where
  pub vertices : List Vertex
  pub gives : level_rest (length s) (drop at s) ≡ cond r.form (got vertices (drop r.next s)) nothing
  pub inside : r.next ≤ length s
  pub counted : r.count ≡ length vertices
  pub onward : at + r.count ≤ r.next
  pub fit : r.fit ≡ row_in_limit vertices
  pub vias_stored : vias' ≡ sets vias first (vias_of vertices)
  pub halves_stored : r.fit ≡ true → halves' ≡ sets halves first (halves_of vertices)

-- The level lines from `at` on. Where `form` is false, the line after them begins as a level line and is not in the form.
pub record FindsRows (s : List ℕ) (at : ℕ) (r : Rows) (sizes : List ℕ) (vias : List Bool) (halves : List ℕ) (sizes' : List ℕ) (vias' : List Bool) (halves' : List ℕ) : Type 0 where
  pub rows : List (List Vertex)
  pub gives : many (length s) (level_line (length s)) (drop at s) ≡ got rows (drop r.next s)
  pub inside : r.next ≤ length s
  pub counted : r.levels ≡ length rows
  pub vertices : r.vertices ≡ length (concat rows)
  pub fit : r.fit ≡ every row_in_limit rows
  pub broken : r.form ≡ false → word (bytes "(level") (drop r.next s) ≡ got tt (drop (r.next + 6) s)
  pub sizes_stored : r.form ≡ true → sizes' ≡ sets sizes 0 (map length rows)
  pub vias_stored : r.form ≡ true → vias' ≡ sets vias 0 (vias_of (concat rows))
  pub halves_stored : r.form ≡ true → r.fit ≡ true → halves' ≡ sets halves 0 (halves_of (concat rows))

-- The segment lines from `at` on.
pub record FindsSegments (s : List ℕ) (at : ℕ) (r : Segments) (uppers lowers ratings uppers' lowers' ratings' : List ℕ) : Type 0 where
  pub segments : List SegmentLine
  pub gives : many (length s) segment_line (drop at s) ≡ got segments (drop r.next s)
  pub inside : r.next ≤ length s
  pub counted : r.count ≡ length segments
  pub fit : r.fit ≡ every (λ s. rating_in_limit s.rating) segments
  pub uppers_stored : uppers' ≡ sets uppers 0 (uppers_of segments)
  pub lowers_stored : lowers' ≡ sets lowers 0 (lowers_of segments)
  pub ratings_stored : ratings' ≡ sets ratings 0 (ratings_of segments)

-- Check 2's questions, of the numbers and counts that the program has.
abbrev pub in_limits : FoundHeader → Rows → Segments → Bool
in_limits h r e =
    header_in_limits h r.levels && r.fit && leb r.vertices max_vertices && leb e.count max_segments && e.fit

-- The program holds the data p: its numbers and counts, and its lists at the front of the arrays.
pub record Kept (p : PlanData) (r : Scanned) (sizes : List ℕ) (vias : List Bool) (halves uppers lowers ratings : List ℕ)
    (sizes' : List ℕ) (vias' : List Bool) (halves' uppers' lowers' ratings' : List ℕ) : Type 0 where
  pub levels : r.levels ≡ p.levels
  pub gap : r.gap ≡ p.gap
  pub spacing : r.spacing ≡ p.spacing
  pub level-lines : r.levels ≡ length p.sizes
  pub vertices : r.vertices ≡ length p.vias
  pub segments : r.segments ≡ length p.uppers
  pub lower-ends : r.segments ≡ length p.lowers
  pub rated : r.segments ≡ length p.ratings
  pub sizes-kept : sizes' ≡ over p.sizes sizes
  pub vias-kept : vias' ≡ over p.vias vias
  pub halves-kept : halves' ≡ over p.halves halves
  pub uppers-kept : uppers' ≡ over p.uppers uppers
  pub lowers-kept : lowers' ≡ over p.lowers lowers
  pub ratings-kept : ratings' ≡ over p.ratings ratings

-- The text is not too long, and the arrays have room for what the limits allow.
pub record LongEnough (s sizes : List ℕ) (vias : List Bool) (halves uppers lowers ratings : List ℕ) : Type 0 where
  pub bytes_fit : length s ≤ max_bytes
  pub sizes_fit : max_levels ≤ length sizes
  pub vias_fit : max_vertices ≤ length vias
  pub halves_fit : max_vertices ≤ length halves
  pub uppers_fit : max_segments ≤ length uppers
  pub lowers_fit : max_segments ≤ length lowers
  pub ratings_fit : max_segments ≤ length ratings

abbrev pub is_some : Option Lines → Bool
is_some none = false
is_some (some l) = true

-- Checks 1 and 2 of a text of at most 65,536 bytes, and what is stored of one that passes them.
pub record Scans (s : List ℕ) (r : Scanned) (sizes : List ℕ) (vias : List Bool) (halves uppers lowers ratings : List ℕ)
    (sizes' : List ℕ) (vias' : List Bool) (halves' uppers' lowers' ratings' : List ℕ) : Type 0 where
  pub form : r.form ≡ is_some (form_of s)
  pub limits : (l : Lines) → form_of s ≡ some l → r.limits ≡ check2 l
  pub kept : (l : Lines) → form_of s ≡ some l → check2 l ≡ true
      → Kept (stored l) r sizes vias halves uppers lowers ratings sizes' vias' halves' uppers' lowers' ratings'
