-- The names text: empty or lines `NUMBER NAME` that each end in LF. A number is that of a box of the plan that no earlier line names.
use Rattle.std.specs.Prelude.{Bool, true, false, cond, not, ◌&&◌, List, [], ◌∷◌, ℕ, suc, leb, length, get_or, set, replicate, Result, Ok, Err}
use Rattle.text.specs.Bytes.{bytes}
use Rattle.text.specs.Parser.{Got, got, nothing, Rule, give, ◌>>=◌, ◌>>◌, word, number}
use Rattle.script_words.specs.Parts.{parts}
use Rattle.picture_names.specs.Chars.{is_name}
use Rattle.picture_names.specs.declared.types.BadLine.{BadLine}

-- The line that refuses, counted from 1, or the name of every vertex, [] for one without a name.
pub data Names : Type 0 where
  bad : ℕ → Names
  named : List (List ℕ) → Names

-- What the program answers of them.
abbrev pub answer_of : Names → Result Unit BadLine
answer_of (bad n) = Err (record { 0 = n })
answer_of (named l) = Ok tt

abbrev pub max_names : ℕ
max_names = 65536

abbrev pub is_empty : {A : Type 0} → List A → Bool
is_empty [] = true
is_empty (x ∷ xs) = false

-- A number as in plan texts and a space; what follows is the name.
unfoldable pub number_of : Rule ℕ
number_of = do
  n ← number
  word (bytes " ")
  give n

-- Vertex n is a box: what is no vertex counts as a via.
abbrev pub is_box : List Bool → ℕ → Bool
is_box vias n = not (get_or vias n true)

-- Whether a line names a box that has no name yet.
abbrev pub is_good : List Bool → List (List ℕ) → Got ℕ → Bool
is_good vias names nothing = false
is_good vias names (got n name) = is_name name && (is_box vias n && is_empty (get_or names n []))

-- The names with that of a line.
abbrev pub with : List (List ℕ) → Got ℕ → List (List ℕ)
with names nothing = names
with names (got n name) = set names n name

-- The lines from line n on, after lines that gave `names`. The last part of a text is what follows its last LF: nothing.
unfoldable pub names_from : ℕ → List Bool → List (List ℕ) → List (List ℕ) → Names
names_from n vias names [] = named names
names_from n vias names (l ∷ ls) =
    let line = number_of l in
    let more = names_from (suc n) vias (with names line) ls in
    let good = cond (is_good vias names line) more (bad n) in
    let last = cond (is_empty l) (named names) (bad n) in
    cond (is_empty ls) last good

-- All lines.
abbrev pub lines_named : List Bool → List ℕ → Names
lines_named vias s = names_from 1 vias (replicate (length vias) []) (parts 10 s)

unfoldable pub names_of : List Bool → List ℕ → Names
names_of vias s =
    let names = lines_named vias s in
    cond (leb (length s) max_names) names (bad 0)
