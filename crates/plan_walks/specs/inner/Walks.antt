-- The segments over which a walk goes, by their places: those of one level stand together, as segments are sorted.
use Rattle.std.specs.Prelude.{Bool, cond, List, [], ◌∷◌, ℕ, ltb, drop}
use Rattle.plan.specs.Segments.{Segment, segments_from, inner_in}
use Rattle.plan.specs.Walk.{walk_from}
use Rattle.plan.specs.inner.Graph.{graph_of}
use Rattle.plan.specs.declared.walk.Walk.{Walk}

-- The segments after the first i.
abbrev pub after : List ℕ → List ℕ → ℕ → List Segment
after uppers lowers i = segments_from (drop i uppers) (drop i lowers)

-- Those at the front whose upper ends come before `end`.
unfoldable pub ahead : ℕ → List Segment → List Segment
ahead end [] = []
ahead end (s ∷ ss) =
    let more = s ∷ ahead end ss in
    cond (ltb s.upper end) more []

-- The walk over the inner ones of the segments after the first `from`, up to the first whose upper end does not come before `end`.
abbrev pub walk_to : List Bool → List ℕ → List ℕ → ℕ → ℕ → Walk
walk_to vias uppers lowers from end = walk_from 0 0 (inner_in (graph_of [] vias uppers lowers) (ahead end (after uppers lowers from)))
