-- A name in rows of whole words, filled one after another.
use Rattle.std.specs.Prelude.{Bool, true, false, cond, ◌&&◌, List, [], ◌∷◌, map, ℕ, zero, suc, ◌-◌, ltb, leb, eqb, length, get_or, take, drop}
use Rattle.ints.specs.Lists.{sum, greatest}
use Rattle.script_words.specs.Parts.{words, word_at}

-- Columns of a byte: 0 for a byte that continues a character, 2 for the first byte of a character from U+0800 on.
unfoldable pub columns_of : ℕ → ℕ
columns_of b = cond (ltb b 0x80) 1 (cond (ltb b 0xC0) 0 (cond (ltb b 0xE0) 1 2))

unfoldable pub columns : List ℕ → ℕ
columns s = sum (map columns_of s)

-- The columns of the widest word.
unfoldable pub widest : List ℕ → ℕ
widest name = greatest (map columns (words name))

-- The greatest number up to n, at least 1, that passes a test; 0 if none does.
unfoldable pub last_of : (ℕ → Bool) → ℕ → ℕ
last_of test zero = 0
last_of test (suc n) =
    let before = last_of test n in
    cond (test (suc n)) (suc n) before

-- The end of the longest front of at most `most` columns before a byte that `stops`; behind a name stands a space. 0 if there is none.
unfoldable pub longest : (ℕ → Bool) → ℕ → List ℕ → ℕ
longest stops most name = last_of (λ e. stops (get_or name e 32) && leb (columns (take e name)) most) (length name)

-- Where a word ends, and where a character begins.
abbrev pub is_space : ℕ → Bool
is_space b = eqb b 32

abbrev pub begins : ℕ → Bool
begins b = ltb 0 (columns_of b)

-- The end of the longest front of whole characters, a space at its end dropped.
unfoldable pub cut_end : ℕ → List ℕ → ℕ
cut_end most name =
    let e = longest begins most name in
    cond (eqb (get_or name (e - 1) 0) 32) (e - 1) e

-- A row: a part of the name; a row that is cut has a sign behind it, one column wide.
pub record Row : Type 0 where
  pub front : List ℕ
  pub cut : Bool

abbrev pub row : List ℕ → Bool → Row
row front cut = record { front = front; cut = cut }

-- Whether whole words up to e make a row, after which there is room for n rows: the last row has to hold all that is left.
abbrev pub is_whole : ℕ → ℕ → List ℕ → Bool
is_whole n e name = cond (eqb n 0) (eqb e (length name)) (ltb 0 e)

-- At most so many rows of a name: each has whole words; or the front of the first word, or in the last row of all that is left, that leaves
-- a column for the sign. What follows the words' space, or that of the word that is cut, stands in the next rows.
unfoldable pub rows : ℕ → ℕ → List ℕ → List Row
rows cols zero name = []
rows cols (suc n) [] = []
rows cols (suc n) (b ∷ s) =
    let name = b ∷ s in
    let e = longest is_space cols name in
    let whole = row (take e name) false ∷ rows cols n (drop (suc e) name) in
    let inside = cond (eqb n 0) name (word_at name 0) in
    let part = row (take (cut_end (cols - 1) inside) inside) true ∷ rows cols n (drop (suc (length (word_at name 0))) name) in
    cond (is_whole n e name) whole part
