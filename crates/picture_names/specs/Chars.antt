-- Names: words with single spaces between them, in UTF-8, without control characters and without U+FFFE and U+FFFF, which XML lacks.
use Rattle.std.specs.Prelude.{Bool, true, false, cond, List, [], ◌∷◌, ℕ, leb, eqb}
use Rattle.plan.specs.Limits.{within}
use Rattle.picture_names.specs.declared.types.Seen.{Seen}
use Rattle.picture_names.specs.declared.types.Seen.TheVariants.{Start, Inside, One, Two, Three, AfterE0, AfterED, AfterEF, AfterEFBF, AfterF0, AfterF4, Bad}

-- A character's first byte, by the last byte of each row of UTF-8's table: those of four bytes, those of three or four, and all. A space is none.
unfoldable pub begun_four : ℕ → Seen
begun_four b = cond (leb b 0xF0) AfterF0 (cond (leb b 0xF3) Three (cond (leb b 0xF4) AfterF4 Bad))

unfoldable pub begun_wide : ℕ → Seen
begun_wide b =
    let four = begun_four b in
    cond (leb b 0xE0) AfterE0 (cond (leb b 0xEC) Two (cond (leb b 0xED) AfterED (cond (leb b 0xEE) Two (cond (leb b 0xEF) AfterEF four))))

unfoldable pub begun : ℕ → Seen
begun b =
    let wide = begun_wide b in
    cond (leb b 0x20) Bad (cond (leb b 0x7E) Inside (cond (leb b 0xC1) Bad (cond (leb b 0xDF) One wide)))

-- A byte from lo to hi, after which `next` is seen.
unfoldable pub ranged : ℕ → ℕ → ℕ → Seen → Seen
ranged lo hi b next = cond (within lo hi b) next Bad

-- One byte more. A space stands behind a character that is none.
unfoldable pub seen_more : Seen → ℕ → Seen
seen_more Start b = begun b
seen_more Inside b = cond (eqb b 32) Start (begun b)
seen_more One b = ranged 0x80 0xBF b Inside
seen_more Two b = ranged 0x80 0xBF b One
seen_more Three b = ranged 0x80 0xBF b Two
seen_more AfterE0 b = ranged 0xA0 0xBF b One
seen_more AfterED b = ranged 0x80 0x9F b One
seen_more AfterEF b = cond (eqb b 0xBF) AfterEFBF (ranged 0x80 0xBE b One)
seen_more AfterEFBF b = ranged 0x80 0xBD b Inside
seen_more AfterF0 b = ranged 0x90 0xBF b Two
seen_more AfterF4 b = ranged 0x80 0x8F b Two
seen_more Bad b = Bad

unfoldable pub seen_after : Seen → List ℕ → Seen
seen_after s [] = s
seen_after s (b ∷ bs) = seen_after (seen_more s b) bs

abbrev pub is_whole : Seen → Bool
is_whole Start = false
is_whole Inside = true
is_whole One = false
is_whole Two = false
is_whole Three = false
is_whole AfterE0 = false
is_whole AfterED = false
is_whole AfterEF = false
is_whole AfterEFBF = false
is_whole AfterF0 = false
is_whole AfterF4 = false
is_whole Bad = false

-- No name is empty, and none has a space at its end.
unfoldable pub is_name : List ℕ → Bool
is_name name = is_whole (seen_after Start name)
