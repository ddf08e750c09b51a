-- The text of a plan's data, line by line, and which data are those of a text.
use Rattle.std.specs.Prelude.{cond, List, [], ◌∷◌, ◌++◌, map, ℕ, eqb}
use Rattle.ints.specs.Lists.{concat}
use Rattle.plan.specs.Plan.{PlanData, is_via, half_width, levels_of}
use Rattle.plan.specs.Segments.{Rated, rated_of}
use Rattle.text.specs.Bytes.{bytes}
use Rattle.text.specs.Decimal.{decimal}

-- "(plan K G S)"
unfoldable pub plan_line : PlanData → List ℕ
plan_line p = bytes "(plan " ++ decimal p.levels ++ bytes " " ++ decimal p.gap ++ bytes " " ++ decimal p.spacing ++ bytes ")\n"

-- " (box 3)" and " (via)"
unfoldable pub vertex_words : PlanData → ℕ → List ℕ
vertex_words p v =
    let box = bytes " (box " ++ decimal (half_width p v) ++ bytes ")" in
    cond (is_via p v) (bytes " (via)") box

-- "(level (box 3) (via))"
unfoldable pub level_line_of : PlanData → List ℕ → List ℕ
level_line_of p vs = bytes "(level" ++ concat (map (vertex_words p) vs) ++ bytes ")\n"

-- " W": "without one it has rating 1, never written" (document 02, E5).
unfoldable pub rating_words : ℕ → List ℕ
rating_words w =
    let written = bytes " " ++ decimal w in
    cond (eqb w 1) [] written

-- "(seg A B)" and "(seg A B W)"
unfoldable pub segment_line_of : Rated → List ℕ
segment_line_of r =
    bytes "(seg " ++ decimal r.segment.upper ++ bytes " " ++ decimal r.segment.lower ++ rating_words r.rating ++ bytes ")\n"

-- "(end)"
abbrev pub last_line : List ℕ
last_line = bytes "(end)\n"

-- All lines, and the whole text.
unfoldable pub lines_of : PlanData → List (List ℕ)
lines_of p = plan_line p ∷ map (level_line_of p) (levels_of p) ++ map segment_line_of (rated_of p) ++ (last_line ∷ [])

unfoldable pub text_of : PlanData → List ℕ
text_of p = concat (lines_of p)
