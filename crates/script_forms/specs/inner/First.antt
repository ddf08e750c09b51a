-- The first of the forms that a line has, counted from 0; how many there are, if it has none.
use Rattle.std.specs.Prelude.{cond, List, [], ◌∷◌, ℕ, suc}
use Rattle.script_forms.specs.Forms.{has_form}

unfoldable pub first_form : List (List ℕ) → List ℕ → ℕ
first_form [] l = 0
first_form (f ∷ fs) l =
    let more = suc (first_form fs l) in
    cond (has_form f l) 0 more
