-- Words that give a name a value: `name=value`.
use Rattle.std.specs.Prelude.{List, [], ◌∷◌, ℕ, length, get_or}
use Rattle.text.specs.Parser.{Got, got, nothing, word}

-- The value of a word that begins with the name, before other values.
abbrev pub value_before : Got (Unit {0}) → List (List ℕ) → List (List ℕ)
value_before (got u v) vs = v ∷ vs
value_before nothing vs = vs

-- The values that a name, written with its `=`, has in these words: what follows it in each word that begins with it.
unfoldable pub values_of : List ℕ → List (List ℕ) → List (List ℕ)
values_of name [] = []
values_of name (w ∷ ws) = value_before (word name w) (values_of name ws)

-- How often it has a value, and the first; empty if it has none.
abbrev pub times_of : List ℕ → List (List ℕ) → ℕ
times_of name ws = length (values_of name ws)

abbrev pub value_of : List ℕ → List (List ℕ) → List ℕ
value_of name ws = get_or (values_of name ws) 0 []
