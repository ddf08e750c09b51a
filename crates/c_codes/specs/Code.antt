-- The numbers that stand for what a call gives.
use Rattle.std.specs.Prelude.{◌≡◌, List, ℕ, ℤ, pos, ◌-ℤ◌, Result, Ok, Err}
use Rattle.ints.specs.Refusals.{Verdict, gives, refuses}
use Rattle.sheet.specs.Calls.{BufferOut}

-- What a call gives that answers so, where each refusal has a number.
abbrev pub verdict_by : {A R : Type 0} → (R → ℕ) → Result A R → Verdict A
verdict_by number_of (Ok a) = gives a
verdict_by number_of (Err r) = refuses (number_of r)

-- A length or a count; the number of a refusal, negative.
abbrev pub code_of : Verdict ℕ → ℤ
code_of (gives n) = pos n
code_of (refuses n) = pos 0 -ℤ pos n

-- The program answers with this number and leaves the buffer so.
pub record Codes {A : Type 0} (o : BufferOut A) (r : ℤ) (out : List A) : Type 0 where
  pub code : r ≡ code_of o.result
  pub buffer : out ≡ o.buffer
