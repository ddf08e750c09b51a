-- The numbers that stand for what is answered when a picture is asked for.
use Rattle.std.specs.Prelude.{◌≡◌, List, ℕ, ◌+◌, ℤ, pos, ◌-ℤ◌}
use Rattle.picture_fit.specs.Fitted.{Left, Drawn, written, refused, bad_names}

-- "The length, −N, or −(100 + L)".
abbrev pub code_of : Drawn → ℤ
code_of (written n) = pos n
code_of (refused n) = pos 0 -ℤ pos n
code_of (bad_names line) = pos 0 -ℤ pos (100 + line)

-- The program answers with this number and leaves the buffer so.
pub record Codes (l : Left) (r : ℤ) (out : List ℕ) : Type 0 where
  pub code : r ≡ code_of l.answer
  pub buffer : out ≡ l.buffer
