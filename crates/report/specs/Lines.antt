-- The report's lines, each with its LF, as lists of bytes.
use Rattle.std.specs.Prelude.{List, [], ◌∷◌, ◌++◌, map, ℕ, length, ℤ}
use Rattle.plan.specs.Plan.{PlanData, vertex_count, numbers, level_of, height_of}
use Rattle.text.specs.Bytes.{bytes}
use Rattle.text.specs.Decimal.{decimal, signed}
use Rattle.passes.specs.State.{position_of}
use Rattle.passes.specs.Drawing.{BoxAt, Placing, Drawing}

-- "(drawing V P)": vertices and placings.
unfoldable pub drawing_line : ℕ → ℕ → List ℕ
drawing_line v p = bytes "(drawing " ++ decimal v ++ bytes " " ++ decimal p ++ bytes ")\n"

-- "(at n p x y)": "vertex, preliminary and final position in half steps, y in steps".
unfoldable pub at_line : ℕ → ℤ → ℤ → ℕ → List ℕ
at_line n p x y =
    bytes "(at " ++ decimal n ++ bytes " " ++ signed p ++ bytes " " ++ signed x ++ bytes " " ++ decimal y ++ bytes ")\n"

unfoldable pub at_line_of : PlanData → Drawing → ℕ → List ℕ
at_line_of p d v = at_line v (position_of d.preliminary v) (position_of d.final v) (height_of p (level_of p v))

-- "(place q l (n x) ..)": "pass, level, each box with its position after".
unfoldable pub box_words : List BoxAt → List ℕ
box_words [] = []
box_words (b ∷ bs) = bytes " (" ++ decimal b.vertex ++ bytes " " ++ signed b.position ++ bytes ")" ++ box_words bs

unfoldable pub place_line : Placing → List ℕ
place_line q = bytes "(place " ++ decimal q.pass ++ bytes " " ++ decimal q.level ++ box_words q.boxes ++ bytes ")\n"

-- "(end)"
abbrev pub end_line : List ℕ
end_line = bytes "(end)\n"

-- All lines of a drawing, in order.
unfoldable pub report_lines : PlanData → Drawing → List (List ℕ)
report_lines p d =
    drawing_line (vertex_count p) (length d.placings)
    ∷ map (at_line_of p d) (numbers 0 (vertex_count p)) ++ map place_line d.placings ++ (end_line ∷ [])
