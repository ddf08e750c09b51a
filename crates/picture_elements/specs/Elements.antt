-- The elements of a picture, one for each mark, each a line of the document. An element of a kind is empty for marks of other kinds.
use Rattle.std.specs.Prelude.{cond, List, [], ◌++◌, ℕ, ◌+◌, ◌*◌, eqb, ℤ, pos, ◌-ℤ◌}
use Rattle.text.specs.Bytes.{bytes}
use Rattle.text.specs.Decimal.{decimal}
use Rattle.marks.specs.Marks.{WholeMark, box, bend, line}
use Rattle.picture_labels.specs.Label.{title_of, label_of}
use Rattle.picture_numbers.specs.Thousandths.{amount, thousandths, across, down}

-- The pen of a line with rating w: "0.001 u × (19 + w)". With rating 1 nothing, "since it is the group's".
unfoldable pub pen_of : ℕ → ℕ → List ℕ
pen_of u w = cond (eqb w 1) [] (bytes "\" stroke-width=\"" ++ amount ((19 + w) * u))

-- A line from its upper end to its lower, of a segment with rating w.
unfoldable pub line_of : ℕ → ℕ → WholeMark → List ℕ
line_of u w (line x y a b) =
    bytes "<line x1=\"" ++ across x ++ bytes "\" y1=\"" ++ down y ++ bytes "\" x2=\"" ++ across a ++ bytes "\" y2=\"" ++ down b
    ++ pen_of u w ++ bytes "\"/>\n"
line_of u w (bend x y) = []
line_of u w (box x y h) = []

-- The bend with number n, its radius 0.035 u.
unfoldable pub bend_of : ℕ → ℕ → WholeMark → List ℕ
bend_of u n (bend x y) =
    bytes "<circle id=\"v" ++ decimal n ++ bytes "\" cx=\"" ++ across x ++ bytes "\" cy=\"" ++ down y
    ++ bytes "\" r=\"" ++ amount (35 * u) ++ bytes "\"/>\n"
bend_of u n (box x y w) = []
bend_of u n (line x y a b) = []

-- The rectangle of a box: "x = X − hw, y = Y − 0.2 u, width 2 hw, height 0.4 u".
unfoldable pub rect_of : ℕ → ℤ → ℕ → ℕ → List ℕ
rect_of u x y w =
    bytes "<rect x=\"" ++ across (x -ℤ pos (2 * w)) ++ bytes "\" y=\"" ++ thousandths (pos (1000 * y) -ℤ pos (200 * u))
    ++ bytes "\" width=\"" ++ down (2 * w) ++ bytes "\" height=\"" ++ amount (400 * u) ++ bytes "\"/>"

-- The box with number n and this name, or none, [].
unfoldable pub box_of : ℕ → List ℕ → ℕ → WholeMark → List ℕ
box_of u name n (box x y w) =
    bytes "<g id=\"v" ++ decimal n ++ bytes "\"><title>" ++ title_of n name ++ bytes "</title>" ++ rect_of u x y w
    ++ label_of x y w u n name ++ bytes "</g>\n"
box_of u name n (bend x y) = []
box_of u name n (line x y a b) = []
