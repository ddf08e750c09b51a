-- What a line says, and names by their places in the text.
use Rattle.std.specs.Prelude.{◌≡◌, Bool, true, false, List, [], ℕ, ◌-◌, ◌≤◌, ◌<◌, length, get_or, take, drop, Result}
use Rattle.text.specs.Parser.{Got, got, nothing}
use Rattle.picture_names.specs.Chars.{is_name}
use Rattle.picture_names.specs.Names.{Names, named, answer_of, number_of, is_good, with}
use Rattle.script_words.specs.inner.Ends.{between}
use Rattle.picture_names.specs.declared.types.BadLine.{BadLine}

-- Whether what follows a line's number is a name.
abbrev pub named? : Got ℕ → Bool
named? nothing = false
named? (got n name) = is_name name

-- The line has a number n and a name, which begins at `start`; or, where `good` is false, it has not.
pub record Says (line : List ℕ) (good : Bool) (n start : ℕ) : Type 0 where
  pub yes : good ≡ true → number_of line ≡ got n (drop start line)
  pub name : good ≡ named? (number_of line)
  pub inside : start ≤ length line

-- What stands in the text for a vertex.
abbrev pub name_at : List ℕ → List ℕ → List ℕ → ℕ → List ℕ
name_at text starts ends v = take (get_or ends v 0 - get_or starts v 0) (drop (get_or starts v 0) text)

pub record HoldsNames (text starts ends : List ℕ) (l : List (List ℕ)) : Type 0 where
  pub names : (v : ℕ) → v < length l → name_at text starts ends v ≡ get_or l v []
  pub ordered : (v : ℕ) → v < length l → get_or starts v 0 ≤ get_or ends v 0
  pub inside : (v : ℕ) → v < length l → get_or ends v 0 ≤ length text

-- A line between two places, after lines that gave l: whether it is good, and its name with the others.
pub record Takes (vias : List Bool) (text : List ℕ) (from to : ℕ) (starts ends starts' ends' : List ℕ) (r : Bool) : Type 0 where
  pub good : (l : List (List ℕ)) → length l ≡ length vias → HoldsNames text starts ends l → r ≡ is_good vias l (number_of (between from to text))
  pub holds : (l : List (List ℕ)) → length l ≡ length vias → HoldsNames text starts ends l → r ≡ true
      → HoldsNames text starts' ends' (with l (number_of (between from to text)))

-- The answer is that of the definition; if names are good, they stand where the arrays say.
pub record Indexed (names : Names) (text starts ends : List ℕ) (r : Result Unit BadLine) : Type 0 where
  pub answer : r ≡ answer_of names
  pub holds : (l : List (List ℕ)) → names ≡ named l → HoldsNames text starts ends l
