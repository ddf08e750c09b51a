-- What the program finds at a position of a text, against the grammar's rules. The text from `at` on is `drop at s`; what a
-- rule leaves of it is the text from a later position on.
use Rattle.std.specs.Prelude.{◌≡◌, Bool, true, cond, ◌&&◌, List, ℕ, ◌+◌, ◌≤◌, ◌<◌, eqb, length, drop}
use Rattle.std.proofs.Math.Option.{Option, none, some}
use Rattle.plan.specs.Limits.{within, max_levels, max_gap, max_spacing}
use Rattle.text.specs.Bytes.{bytes}
use Rattle.text.specs.Parser.{got, nothing, Rule, give, ◌>>=◌, ◌>>◌, either, word, digits_after, number, then}
use Rattle.text.specs.Form.{Vertex, SegmentLine, Lines, box, via, rating, whole}
use Rattle.text_scan.specs.declared.scanners.FoundVertex.{FoundVertex}
use Rattle.text_scan.specs.declared.scanners.FoundSegment.{FoundSegment}
use Rattle.text_scan.specs.declared.scanners.FoundHeader.{FoundHeader}

-- The rule finds a at `at` and leaves the text from `next` on; or, where `found` is false, it finds nothing.
pub record Finds {A : Type 0} (rule : Rule A) (s : List ℕ) (at : ℕ) (found : Bool) (a : A) (next : ℕ) : Type 0 where
  pub gives : rule (drop at s) ≡ cond found (got a (drop next s)) nothing
  pub inside : next ≤ length s
  pub onward : found ≡ true → at < next

-- Whether the word w stands at `at`.
pub record HasWord (w s : List ℕ) (at : ℕ) (found : Bool) : Type 0 where
  pub gives : word w (drop at s) ≡ cond found (got tt (drop (at + length w) s)) nothing
  pub inside : found ≡ true → at + length w ≤ length s

-- At most four digits more, from `at` on, after the first digit.
pub record MoreDigits (s : List ℕ) (at first : ℕ) (found : Bool) (v next : ℕ) : Type 0 where
  pub gives : digits_after 4 first (drop at s) ≡ cond found (got v (drop next s)) nothing
  pub inside : next ≤ length s
  pub onward : at ≤ next

-- A number with a word after it.
unfoldable pub number_then : List ℕ → Rule ℕ
number_then w = do
  n ← number
  word w
  give n

-- A vertex of a level line.
abbrev pub vertex : Rule Vertex
vertex = either box via

-- "A via ..: its half-width is 0."
abbrev pub vertex_of : FoundVertex → Vertex
vertex_of r = record { via = r.via; half = cond r.via 0 r.half }

-- The rating w, if one is written.
abbrev pub rating_if : Bool → ℕ → Option ℕ
rating_if written w = cond written (some w) none

-- Whether a rating is written at `at`, which, and where the text goes on.
pub record MayRate (s : List ℕ) (at : ℕ) (written : Bool) (w next : ℕ) : Type 0 where
  pub gives : either rating (give none) (drop at s) ≡ got (rating_if written w) (drop next s)
  pub inside : next ≤ length s
  pub onward : at ≤ next

abbrev pub segment_of : FoundSegment → SegmentLine
segment_of r = record { segment = record { upper = r.upper; lower = r.lower }; rating = rating_if r.rated r.rating }

-- "(plan K G S)"
pub record Header : Type 0 where
  pub levels : ℕ
  pub gap : ℕ
  pub spacing : ℕ

unfoldable pub plan_line : Rule Header
plan_line = do
  word (bytes "(plan ")
  k ← number_then (bytes " ")
  g ← number_then (bytes " ")
  s ← number_then (bytes ")\n")
  give (record { levels = k; gap = g; spacing = s })

abbrev pub header_of : FoundHeader → Header
header_of r = record { levels = r.levels; gap = r.gap; spacing = r.spacing }

-- Whether a text whose lines say l ends at `at`: "(end)", and nothing after it.
pub record Ends (s : List ℕ) (at : ℕ) (r : Bool) : Type 0 where
  pub gives : (l : Lines) → whole (then (word (bytes "(end)\n") (drop at s)) (λ _ t. got l t)) ≡ cond r (some l) none

-- Check 2's questions of the plan line, and whether there are K level lines.
abbrev pub header_in_limits : FoundHeader → ℕ → Bool
header_in_limits h lines =
    within 1 max_levels h.levels && within 1 max_gap h.gap && within 1 max_spacing h.spacing && eqb lines h.levels
