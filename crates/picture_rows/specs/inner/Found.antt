-- Ends of fronts of a name, and its first row.
use Rattle.std.specs.Prelude.{◌≡◌, Bool, true, false, List, ◌∷◌, ℕ, ◌-◌, ◌+◌, ◌≤◌, ◌<◌, length, take, drop}
use Rattle.picture_rows.specs.Rows.{is_space, begins, row, rows}

-- Before which bytes a front ends: spaces, or first bytes of characters.
abbrev pub stops : Bool → ℕ → Bool
stops true b = is_space b
stops false b = begins b

-- Of at most `left` rows the first ends at `end`, and what comes after it begins at `next`.
pub record FirstRow (cols left : ℕ) (name : List ℕ) (end : ℕ) (cut : Bool) (next : ℕ) : Type 0 where
  pub gives : rows cols left name ≡ row (take end name) cut ∷ rows cols (left - 1) (drop next name)
  pub inside : end ≤ length name
  pub onward : (0 < next) × (next ≤ length name + 1)
