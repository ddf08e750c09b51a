-- Names in rows, computed: the sign stands behind rows that are cut.
use mathlib.Core.Path.{◌≡◌, refl}
use mathlib.Core.Bool.{true, false}
use mathlib.Core.List.{[], ◌∷◌}
use Rattle.ints.specs.Lists.{sum, greatest}
use Rattle.text.specs.Bytes.{bytes}
use Rattle.script_words.specs.Parts.{parts}
use Rattle.picture_rows.specs.Escape.{escaped_byte, escaped}
use Rattle.picture_rows.specs.Rows.{columns_of, columns, widest, last_of, longest, cut_end, row, rows}

pub named : (
    rows 3 3 (bytes "Tea")
    ∷ rows 12 3 (bytes "Customer relationship management")
    ∷ rows 12 3 (bytes "Internationalization")
    ∷ rows 3 3 ((0x61 ∷ 0xC3 ∷ 0xA9 ∷ 0x20 ∷ 0x62 ∷ 0xC3 ∷ 0xBC ∷ []))
    ∷ rows 4 3 ((0xE6 ∷ 0x97 ∷ 0xA5 ∷ 0xE6 ∷ 0x9C ∷ 0xAC ∷ 0x20 ∷ 0xE8 ∷ 0xAA ∷ 0x9E ∷ []))
    ∷ rows 5 3 (bytes "Boat house keeper")
    ∷ rows 12 3 (bytes "aaaaaaaaaaaaa b")
    ∷ rows 10 3 (bytes "Warehouse management and control")
    ∷ rows 2 3 (bytes "a b c d e f g")
    ∷ rows 4 3 (bytes "ab cd ef gh")
    ∷ rows 2 3 (bytes "Tea") ∷ []
    ) ≡ (
    (row (bytes "Tea") false ∷ [])
    ∷ (row (bytes "Customer") false ∷ row (bytes "relationship") false ∷ row (bytes "management") false ∷ [])
    ∷ (row (bytes "Internation") true ∷ [])
    ∷ (row ((0x61 ∷ 0xC3 ∷ 0xA9 ∷ [])) false ∷ row ((0x62 ∷ 0xC3 ∷ 0xBC ∷ [])) false ∷ [])
    ∷ (row ((0xE6 ∷ 0x97 ∷ 0xA5 ∷ 0xE6 ∷ 0x9C ∷ 0xAC ∷ [])) false ∷ row ((0xE8 ∷ 0xAA ∷ 0x9E ∷ [])) false ∷ [])
    ∷ (row (bytes "Boat") false ∷ row (bytes "house") false ∷ row (bytes "keep") true ∷ [])
    ∷ (row (bytes "aaaaaaaaaaa") true ∷ row (bytes "b") false ∷ [])
    ∷ (row (bytes "Warehouse") false ∷ row (bytes "management") false ∷ row (bytes "and contr") true ∷ [])
    ∷ (row (bytes "a") false ∷ row (bytes "b") false ∷ row (bytes "c") true ∷ [])
    ∷ (row (bytes "ab") false ∷ row (bytes "cd") false ∷ row (bytes "ef") true ∷ [])
    ∷ (row (bytes "T") true ∷ []) ∷ []
    )
unfolding rows cut_end longest last_of columns columns_of sum parts
named = refl

pub wides : (widest (bytes "Customer relationship management") ∷ widest (0x61 ∷ 0xC3 ∷ 0xA9 ∷ 0x20 ∷ 0xE8 ∷ 0xAA ∷ 0x9E ∷ 0x78 ∷ []) ∷ widest [] ∷ []) ≡ (12 ∷ 3 ∷ 0 ∷ [])
unfolding widest greatest columns columns_of sum parts
wides = refl

pub marked : escaped (bytes "a<b>&c") ≡ bytes "a&lt;b&gt;&amp;c"
unfolding escaped escaped_byte
marked = refl
