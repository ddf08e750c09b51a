-- The call place-run with numbers for its bounds and for its answer.
use Rattle.std.specs.Prelude.{◌≡◌, cond, List, ℕ, eqb, ℤ, Option, None, Some}
use Rattle.run.specs.Call.{Out}

-- A flag that is not 0 means that there is that bound; else its value is ignored.
abbrev pub bound_of : ℕ → ℤ → Option ℤ
bound_of flag value = cond (eqb flag 0) None (Some value)

-- The program answers with document 01's number, 0 where nothing is refused, and leaves the buffer so.
pub record Answers (o : Out) (answered : ℕ) (left : List ℤ) : Type 0 where
  pub number : answered ≡ o.number
  pub buffer : left ≡ o.buffer
