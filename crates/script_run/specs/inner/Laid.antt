-- The answers of a command laid into a buffer, and the sheet afterwards.
use Rattle.std.specs.Prelude.{◌≡◌, Bool, true, List, ℕ, ◌≤◌, length}
use Rattle.sheet.specs.declared.types.Sheet.{Sheet}
use Rattle.script_commands.specs.declared.types.Command.{Command as Found}
use Rattle.script_commands.specs.inner.Held.{Lent, Inside}
use Rattle.script_answers.specs.inner.Lengths.{max_answer}
use Rattle.script_told.specs.Turns.{Turn, bytes_of}
use Rattle.script_told.specs.inner.Laid.{Lays, InRoom}

-- The answers of a turn laid, and the sheet afterwards.
pub record Turned (t : Turn) (write : Bool) (room : ℕ) (o : List ℕ) (at : ℕ) (s : Sheet) (fits : Bool) (to : ℕ) (out : List ℕ) : Type 0 where
  pub lays : Lays (bytes_of t.said) write room o at fits to out
  pub left : fits ≡ true → s ≡ t.sheet

-- What the answers of a command ask.
pub record Answering (c : Found) (b : Lent) (buffer : List ℕ) (room at : ℕ) (o : List ℕ) : Type 0 where
  pub inside : Inside b c
  pub answer : max_answer ≤ length buffer
  pub place : InRoom room at o
