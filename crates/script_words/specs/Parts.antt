-- Lines cut at a separator: a script into its lines, a line into its words, a word into the numbers of a list.
use Rattle.std.specs.Prelude.{Bool, true, false, cond, List, [], ◌∷◌, ◌++◌, ℕ, eqb, get_or}

-- The first part with p before it.
abbrev pub onto : List ℕ → List (List ℕ) → List (List ℕ)
onto p [] = p ∷ []
onto p (w ∷ ws) = (p ++ w) ∷ ws

-- What stands between separators: one part more than there are separators; a part may be empty.
unfoldable pub parts : ℕ → List ℕ → List (List ℕ)
parts sep [] = [] ∷ []
parts sep (b ∷ s) =
    let more = parts sep s in
    cond (eqb b sep) ([] ∷ more) (onto (b ∷ []) more)

-- The words of a line have single spaces between them.
abbrev pub words : List ℕ → List (List ℕ)
words l = parts 32 l

-- Word k, counted from 0; empty if there is none.
abbrev pub word_at : List ℕ → ℕ → List ℕ
word_at l k = get_or (words l) k []

-- Whether two words are the same.
unfoldable pub same : List ℕ → List ℕ → Bool
same [] [] = true
same [] (c ∷ t) = false
same (b ∷ s) [] = false
same (b ∷ s) (c ∷ t) =
    let more = same s t in
    cond (eqb b c) more false
