-- Words for lists.
use Rattle.std.specs.Prelude.{Bool, cond, List, [], ◌∷◌, ◌++◌, ℕ, suc, ◌+◌, max, eqb, length, drop}

-- A list that is being filled from the front, as a loop leaves an array: xs so far, and the old elements after them.
abbrev pub over : {A : Type 0} → List A → List A → List A
over xs o = xs ++ drop (length xs) o

-- The sum of a list of numbers.
unfoldable pub sum : List ℕ → ℕ
sum [] = 0
sum (n ∷ ns) = n + sum ns

-- The greatest number of a list; 0 if there is none.
unfoldable pub greatest : List ℕ → ℕ
greatest [] = 0
greatest (n ∷ ns) = max n (greatest ns)

-- Lists one after another.
unfoldable pub concat : {A : Type 0} → List (List A) → List A
concat [] = []
concat (l ∷ ls) = l ++ concat ls

-- The members of a list that pass a test.
unfoldable pub chosen : {A : Type 0} → (A → Bool) → List A → List A
chosen t [] = []
chosen t (x ∷ xs) =
    let more = chosen t xs in
    let here = x ∷ more in
    cond (t x) here more

-- How many members of a list pass a test, and how often v is one of them.
unfoldable pub count_if : {A : Type 0} → (A → Bool) → List A → ℕ
count_if t [] = 0
count_if t (x ∷ xs) =
    let more = count_if t xs in
    let here = suc more in
    cond (t x) here more

unfoldable pub count_of : ℕ → List ℕ → ℕ
count_of v xs = count_if (λ x. eqb x v) xs
