-- Forms of lines: "line 1 N" is the form of all lines that say `line`, `1` and a number without a sign.
use Rattle.std.specs.Prelude.{Bool, true, false, cond, List, [], ◌∷◌, ℕ, ℤ}
use Rattle.text.specs.Bytes.{bytes}
use Rattle.script_words.specs.Parts.{words, word_at, same}
use Rattle.script_words.specs.Numbers.{number_in, is_whole, is_signed, whole_of, signed_of}

-- Whether a word may stand where a form has f: N is any number without a sign, Z any number with a sign, of 64 bits each; all else
-- stands for itself.
unfoldable pub stands_for : List ℕ → List ℕ → Bool
stands_for f w =
    let whole = is_whole (number_in w) in
    let signed = is_signed (number_in w) in
    let other = cond (same f (bytes "Z")) signed (same f w) in
    cond (same f (bytes "N")) whole other

unfoldable pub fits : List (List ℕ) → List (List ℕ) → Bool
fits [] [] = true
fits [] (w ∷ ws) = false
fits (f ∷ fs) [] = false
fits (f ∷ fs) (w ∷ ws) =
    let more = fits fs ws in
    cond (stands_for f w) more false

-- Whether a line has a form, word by word.
abbrev pub has_form : List ℕ → List ℕ → Bool
has_form f l = fits (words f) (words l)

-- The number that word k of a line says, where it may have no sign and where it may have one.
abbrev pub whole_at : List ℕ → ℕ → ℕ
whole_at l k = whole_of (number_in (word_at l k))

abbrev pub signed_at : List ℕ → ℕ → ℤ
signed_at l k = signed_of (number_in (word_at l k))
