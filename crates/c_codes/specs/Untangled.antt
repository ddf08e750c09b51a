-- The numbers that stand for what writing a rearranged plan's text answers: those of writing a text again.
use Rattle.std.specs.Prelude.{◌≡◌, List, ℕ, ℤ}
use Rattle.text_untangle.specs.Text.{Left}
use Rattle.c_codes.specs.Code.{code_of}

-- The program answers with this number and leaves the buffers so.
pub record Codes (l : Left) (r : ℤ) (out numbers : List ℕ) : Type 0 where
  pub code : r ≡ code_of l.answer
  pub buffer : out ≡ l.buffer
  pub numbers_left : numbers ≡ l.numbers
