-- The numbers that stand for what writing a text again answers: those of any call.
use Rattle.std.specs.Prelude.{◌≡◌, List, ℕ, ℤ}
use Rattle.text_write.specs.Again.{Left}
use Rattle.c_codes.specs.Code.{code_of}

-- The program answers with this number and leaves the buffer so.
pub record Codes (l : Left) (r : ℤ) (out : List ℕ) : Type 0 where
  pub code : r ≡ code_of l.answer
  pub buffer : out ≡ l.buffer
