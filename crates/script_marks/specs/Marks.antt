-- What is said of a mark in whole numbers, as lists of bytes.
use Rattle.std.specs.Prelude.{ℕ, suc, ◌/◌, ◌%◌, cond, List, ◌++◌, ℤ, pos, negsuc, ◌==◌}
use Rattle.text.specs.Bytes.{bytes}
use Rattle.text.specs.Decimal.{decimal}
use Rattle.marks.specs.Marks.{WholeMark, box, bend, line}

-- Half steps as steps, "with one decimal".
unfoldable pub half_steps : ℕ → List ℕ
half_steps n = decimal (n / 2) ++ cond (n % 2 == 0) (bytes ".0") (bytes ".5")

unfoldable pub signed_half_steps : ℤ → List ℕ
signed_half_steps (pos n) = half_steps n
signed_half_steps (negsuc n) = bytes "-" ++ half_steps (suc n)

-- "x y"
abbrev pub point_words : ℤ → ℕ → List ℕ
point_words x y = signed_half_steps x ++ bytes " " ++ decimal y

-- "box x y hw", "bend x y", "line x1 y1 x2 y2"
unfoldable pub mark_words : WholeMark → List ℕ
mark_words (box x y w) = bytes "box " ++ point_words x y ++ bytes " " ++ decimal w
mark_words (bend x y) = bytes "bend " ++ point_words x y
mark_words (line x y u v) = bytes "line " ++ point_words x y ++ bytes " " ++ point_words u v
