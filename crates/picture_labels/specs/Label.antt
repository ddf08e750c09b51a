-- The title and the label of a box. Lengths of letters are in thousandths of a step; a column is 2/3 of the letters' height wide.
use Rattle.std.specs.Prelude.{cond, List, [], ◌∷◌, ◌++◌, ℕ, ◌+◌, ◌-◌, ◌*◌, ◌/◌, min, max, length, get_or, ℤ}
use Rattle.text.specs.Bytes.{bytes}
use Rattle.text.specs.Decimal.{decimal}
use Rattle.picture_numbers.specs.Thousandths.{amount, across, down}
use Rattle.picture_rows.specs.Escape.{escaped}
use Rattle.picture_rows.specs.Rows.{widest, Row, rows}

-- The number, and a space and the name if there is one.
unfoldable pub title_of : ℕ → List ℕ → List ℕ
title_of number [] = decimal number
title_of number (b ∷ s) = decimal number ++ bytes " " ++ escaped (b ∷ s)

-- How far below the middle letters stand, in their height: rows are 1.2 apart, and the k-th of these places is .6 below the one before it.
unfoldable pub offset : ℕ → List ℕ
offset k = get_or (bytes "-.85" ∷ bytes "-.25" ∷ bytes ".35" ∷ bytes ".95" ∷ bytes "1.55" ∷ []) k []

-- What stands before the letters, and the whole element.
unfoldable pub start_of : ℤ → ℕ → ℕ → ℕ → List ℕ
start_of x y size k =
    bytes "<text x=\"" ++ across x ++ bytes "\" y=\"" ++ down y ++ bytes "\" dy=\"" ++ offset k ++ bytes "em\" font-size=\"" ++ amount size ++ bytes "\">"

unfoldable pub element_of : ℤ → ℕ → ℕ → ℕ → List ℕ → List ℕ
element_of x y size k letters = start_of x y size k ++ letters ++ bytes "</text>"

-- "…" stands behind a row that is cut.
abbrev pub sign : List ℕ
sign = 0xE2 ∷ 0x80 ∷ 0xA6 ∷ []

abbrev pub letters : Row → List ℕ
letters r = escaped r.front ++ cond r.cut sign []

unfoldable pub elements : ℤ → ℕ → ℕ → ℕ → List Row → List ℕ
elements x y size k [] = []
elements x y size k (r ∷ rs) = element_of x y size k (letters r) ++ elements x y size (k + 2) rs

-- The height of a number's letters: at most 0.2 of the measure, and so that its digits fit the box's width.
unfoldable pub number_size : ℕ → ℕ → ℕ → ℕ
number_size hw u number = min (200 * u) (3000 * hw / length (decimal number))

-- The height of a name's letters: at most 0.1 of the measure, and so that the widest word, or 12 columns of it, fit the box's width.
unfoldable pub name_size : ℕ → ℕ → List ℕ → ℕ
name_size hw u name = min (100 * u) (3000 * hw / max 1 (min 12 (widest name)))

-- The columns of a row.
abbrev pub columns_in : ℕ → ℕ → ℕ
columns_in hw size = 3000 * hw / size

-- A name's rows: at most three.
unfoldable pub rows_of : ℕ → ℕ → List ℕ → List Row
rows_of hw u name = rows (columns_in hw (name_size hw u name)) 3 name

-- One row in the middle, two or three about it.
abbrev pub centred : ℤ → ℕ → ℕ → List Row → List ℕ
centred x y size rs = elements x y size (3 - length rs) rs

-- The number of a box without a name, else the name's rows.
unfoldable pub label_of : ℤ → ℕ → ℕ → ℕ → ℕ → List ℕ → List ℕ
label_of x y hw u number [] = element_of x y (number_size hw u number) 2 (decimal number)
label_of x y hw u number (b ∷ s) = centred x y (name_size hw u (b ∷ s)) (rows_of hw u (b ∷ s))
