-- A picture in a lent buffer: at its front, if the buffer has room for it; else it is refused 14 and the buffer stays as it is.
use Rattle.std.specs.Prelude.{◌≡◌, cond, List, ℕ, ltb, length, Result, Ok, Err}
use Rattle.ints.specs.Lists.{over}
use Rattle.ints.specs.Refusals.{number_of}
use Rattle.ints.specs.declared.refusal.Refusal.{Refusal}
use Rattle.picture_fit.specs.declared.types.PictureError.{PictureError}
use Rattle.picture_fit.specs.declared.types.PictureError.TheVariants.{Refused, Names}

-- How many bytes the picture has, or the number that refuses it, or the line of the names that does, from 1, 0 for names that are too long.
pub data Drawn : Type 0 where
  written : ℕ → Drawn
  refused : ℕ → Drawn
  bad_names : ℕ → Drawn

-- What is answered, where each refusal has a number.
abbrev pub drawn_by : {R : Type 0} → (R → ℕ) → Result ℕ (PictureError R) → Drawn
drawn_by number_of (Ok n) = written n
drawn_by number_of (Err (Refused r)) = refused (number_of r)
drawn_by number_of (Err (Names line)) = bad_names line.0

abbrev pub drawn_of : Result ℕ (PictureError Refusal) → Drawn
drawn_of = drawn_by number_of

-- An answer, and the lent buffer as it is left.
pub record Left : Type 0 where
  pub answer : Drawn
  pub buffer : List ℕ

-- Refused by a number, or for a line of the names: "refused: buffer as it was".
abbrev pub refuses : ℕ → List ℕ → Left
refuses n o = record { answer = refused n; buffer = o }

abbrev pub refuses_names : ℕ → List ℕ → Left
refuses_names line o = record { answer = bad_names line; buffer = o }

unfoldable pub fitted : List ℕ → List ℕ → Left
fitted w o =
    let all : Left = record { answer = written (length w); buffer = over w o } in
    cond (ltb (length o) (length w)) (refuses 14 o) all

-- The program answers so and leaves the buffer so.
pub record Leaves (l : Left) (r : Result ℕ (PictureError Refusal)) (out : List ℕ) : Type 0 where
  pub answer : drawn_of r ≡ l.answer
  pub buffer : out ≡ l.buffer
