-- Answers laid into a buffer from a position on, as far as a room goes: counted, and written if that is asked for.
use Rattle.std.specs.Prelude.{◌≡◌, Bool, true, false, cond, List, ℕ, ◌+◌, ◌≤◌, leb, length}
use Rattle.std.proofs.lemmas.List.Edits.{sets}

-- Whether the text w ends within the room; `to` is the position past it.
pub record Lays (w : List ℕ) (write : Bool) (room : ℕ) (o : List ℕ) (at : ℕ) (fits : Bool) (to : ℕ) (out : List ℕ) : Type 0 where
  pub ends : fits ≡ leb (at + length w) room
  pub next : fits ≡ true → to ≡ at + length w
  pub bytes : fits ≡ true → out ≡ cond write (sets o at w) o
  pub kept : write ≡ false → out ≡ o

-- The position is in the room, and the room in the buffer.
pub record InRoom (room at : ℕ) (o : List ℕ) : Type 0 where
  pub from : at ≤ room
  pub whole : room ≤ length o
