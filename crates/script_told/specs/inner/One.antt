-- The only answer of a command, at the front of a buffer.
use Rattle.std.specs.Prelude.{◌≡◌, Bool, false, List, ℕ}
use Rattle.sheet.specs.declared.types.Sheet.{Sheet}
use Rattle.script_answers.specs.Answers.{Said, line_of}
use Rattle.script_calls.specs.inner.Answered.{Fitted}

pub record Single (a : Said) (t : Sheet) (o : List ℕ) (s : Sheet) (n : ℕ) (more : Bool) (out : List ℕ) : Type 0 where
  pub wrote : Fitted (line_of a) o 0 n out
  pub left : s ≡ t
  pub last : more ≡ false
