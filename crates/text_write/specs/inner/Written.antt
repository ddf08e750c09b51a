-- Text written into a lent buffer from a position on.
use Rattle.std.specs.Prelude.{◌≡◌, List, ℕ, ◌+◌, ◌≤◌, length}
use Rattle.std.proofs.lemmas.List.Edits.{sets}
use Rattle.ints.specs.Lists.{over}

-- The buffer o has room for the text w from the position `at` on.
abbrev pub Room : List ℕ → List ℕ → ℕ → Type 0
Room w o at = at + length w ≤ length o

-- From the position `at` on the buffer has the text w, and elsewhere what it had; `to` is the position past w.
pub record Wrote (w o : List ℕ) (at to : ℕ) (out : List ℕ) : Type 0 where
  pub next : to ≡ at + length w
  pub bytes : out ≡ sets o at w

-- At the front of the buffer stands the text w, and behind it what the buffer had; n is the length of w.
pub record Fronts (w o : List ℕ) (n : ℕ) (out : List ℕ) : Type 0 where
  pub count : n ≡ length w
  pub bytes : out ≡ over w o
