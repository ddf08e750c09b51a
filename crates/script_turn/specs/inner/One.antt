-- One answer of a command at the front of a buffer.
use Rattle.std.specs.Prelude.{◌≡◌, Bool, false, cond, List, ℕ, ◌+◌, ◌-◌, ◌≤◌, ltb, length, take, drop}
use Rattle.sheet.specs.declared.types.Sheet.{Sheet}
use Rattle.script_commands.specs.declared.types.Command.{Command as Found}
use Rattle.script_commands.specs.inner.Held.{Lent, command_in, Inside}
use Rattle.script_answers.specs.Answers.{Said, line_of}
use Rattle.script_answers.specs.inner.Lengths.{max_answer}
use Rattle.script_calls.specs.inner.Answered.{Fitted}
use Rattle.script_told.specs.Turns.{Turn, turn_of, is_refused, most_answers, bytes_of}

-- An answer, whether it is a refusal, and the sheet afterwards.
pub record Tells (a : Said) (t : Sheet) (o : List ℕ) (n : ℕ) (refused : Bool) (s : Sheet) (out : List ℕ) : Type 0 where
  pub wrote : Fitted (line_of a) o 0 n out
  pub ends : refused ≡ is_refused a
  pub left : s ≡ t

-- Answer k of a command that goes on up to a refusal.
pub record Nth (a : Said) (k : ℕ) (t : Sheet) (o : List ℕ) (s : Sheet) (n : ℕ) (more : Bool) (out : List ℕ) : Type 0 where
  pub wrote : Fitted (line_of a) o 0 n out
  pub left : s ≡ t
  pub further : more ≡ cond (is_refused a) false (ltb (k + 1) most_answers)

-- What answering asks: buffers that hold what the command says, an answer that it has (its first, or a further one), room.
pub record Asked (c : Found) (b : Lent) (s : Sheet) (n : ℕ) (o : List ℕ) : Type 0 where
  pub inside : Inside b c
  pub has : n ≤ length (turn_of (command_in c b) s).said - 1
  pub room : max_answer ≤ length o

-- Answer n of a turn, the sheet afterwards, and whether there is a further answer.
pub record Answers (t : Turn) (n : ℕ) (o : List ℕ) (s : Sheet) (count : ℕ) (more : Bool) (out : List ℕ) : Type 0 where
  pub wrote : Fitted (bytes_of (take 1 (drop n t.said))) o 0 count out
  pub left : s ≡ t.sheet
  pub further : more ≡ ltb (n + 1) (length t.said)
