-- What is written of a text that was read: the plan's text, or the one line that says why it was refused.
use Rattle.std.specs.Prelude.{◌≡◌, cond, List, ◌++◌, ℕ, leb, length, Result}
use Rattle.ints.specs.Lists.{over}
use Rattle.ints.specs.Refusals.{Verdict, gives, refuses, verdict_of}
use Rattle.ints.specs.declared.refusal.Refusal.{Refusal}
use Rattle.text.specs.Bytes.{bytes}
use Rattle.text.specs.Decimal.{decimal}
use Rattle.text.specs.Reading.{Reading, accepted, refused}
use Rattle.text.specs.Writing.{text_of}

-- "(refused N)"
unfoldable pub refused_line : ℕ → List ℕ
refused_line n = bytes "(refused " ++ decimal n ++ bytes ")\n"

-- An answer, and a lent buffer as it is left.
pub record Left : Type 0 where
  pub answer : Verdict ℕ
  pub buffer : List ℕ

-- The text w at the front of the buffer o, if it has room for it.
unfoldable pub text_if_short : List ℕ → List ℕ → Left
text_if_short w o =
    let written : Left = record { answer = gives (length w); buffer = over w o } in
    cond (leb (length w) (length o)) written (record { answer = refuses 14; buffer = o })

-- The plan's text again; where the text was refused, the buffer stays as it is.
unfoldable pub rewritten : Reading → List ℕ → Left
rewritten (accepted p) o = text_if_short (text_of p) o
rewritten (refused n) o = record { answer = refuses n; buffer = o }

-- The program answers so and leaves the buffer so.
pub record Leaves (l : Left) (r : Result ℕ Refusal) (out : List ℕ) : Type 0 where
  pub answer : verdict_of r ≡ l.answer
  pub buffer : out ≡ l.buffer
