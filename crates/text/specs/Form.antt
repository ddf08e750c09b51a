-- "The plan text": its form, line by line.
use Rattle.std.specs.Prelude.{Bool, true, false, List, [], ◌∷◌, ℕ, length}
use Rattle.std.proofs.Math.Option.{Option, none, some}
use Rattle.plan.specs.Segments.{Segment}
use Rattle.text.specs.Bytes.{bytes}
use Rattle.text.specs.Parser.{Got, got, nothing, Rule, give, ◌>>=◌, ◌>>◌, either, word, many, number}

-- A vertex as it is written: "A box has a half-width in steps. A via .. its half-width is 0."
pub record Vertex : Type 0 where
  pub via : Bool
  pub half : ℕ

-- A segment as it is written: "A segment may carry a rating" (document 02, E5); the rating where it is written.
pub record SegmentLine : Type 0 where
  pub segment : Segment
  pub rating : Option ℕ

-- What the lines of a text say.
pub record Lines : Type 0 where
  pub levels : ℕ
  pub gap : ℕ
  pub spacing : ℕ
  pub rows : List (List Vertex)
  pub segments : List SegmentLine

-- " (box 3)" and " (via)"
unfoldable pub box : Rule Vertex
box = do
  word (bytes " (box ")
  h ← number
  word (bytes ")")
  give (record { via = false; half = h })

unfoldable pub via : Rule Vertex
via = do
  word (bytes " (via)")
  give (record { via = true; half = 0 })

-- "(level (box 3) (via))": "its vertices left to right, at least one". n is at least the number of vertices.
unfoldable pub level_line : ℕ → Rule (List Vertex)
level_line n = do
  word (bytes "(level")
  v ← either box via
  vs ← many n (either box via)
  word (bytes ")\n")
  give (v ∷ vs)

-- The rating of a segment, written after its ends.
unfoldable pub rating : Rule (Option ℕ)
rating = do
  word (bytes " ")
  w ← number
  give (some w)

-- "(seg A B)" and "(seg A B W)"
unfoldable pub segment_line : Rule SegmentLine
segment_line = do
  word (bytes "(seg ")
  a ← number
  word (bytes " ")
  b ← number
  w ← either rating (give none)
  word (bytes ")\n")
  give (record { segment = record { upper = a; lower = b }; rating = w })

-- "(plan K G S)", the level lines, the segments, "(end)". n is at least the length of the text.
unfoldable pub plan_text : ℕ → Rule Lines
plan_text n = do
  word (bytes "(plan ")
  k ← number
  word (bytes " ")
  g ← number
  word (bytes " ")
  s ← number
  word (bytes ")\n")
  ls ← many n (level_line n)
  ss ← many n segment_line
  word (bytes "(end)\n")
  give (record { levels = k; gap = g; spacing = s; rows = ls; segments = ss })

-- A text is in the form if nothing follows its last line.
abbrev pub whole : Got Lines → Option Lines
whole (got l []) = some l
whole (got l (b ∷ s)) = none
whole nothing = none

unfoldable pub form_of : List ℕ → Option Lines
form_of s = whole (plan_text (length s) s)
