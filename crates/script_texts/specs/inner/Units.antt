-- What stands at a position of an escaped text, and what a text leaves in a buffer.
use Rattle.std.specs.Prelude.{◌≡◌, Bool, true, cond, List, ℕ, ◌≤◌, ◌<◌, length, take, drop}
use Rattle.std.proofs.Math.Option.{Option, none, some}
use Rattle.script_texts.specs.Texts.{follows, unescaped}
use Rattle.script_texts.specs.declared.types.Text.{Text}
use Rattle.script_texts.specs.declared.types.Text.TheVariants.{Bytes, Bad}

-- What f makes of the text from `at` on: a byte before the text from `next` on, or nothing.
pub record Stands (f : List ℕ → Option (List ℕ)) (s : List ℕ) (at : ℕ) (good : Bool) (byte next : ℕ) : Type 0 where
  pub gives : f (drop at s) ≡ cond good (follows byte (unescaped (drop next s))) none
  pub onward : good ≡ true → at < next
  pub inside : next ≤ length s

-- At most m bytes of a text.
abbrev pub cut : ℕ → Option (List ℕ) → Option (List ℕ)
cut m none = none
cut m (some t) = some (take m t)

-- The text that the answer says stands in the buffer.
abbrev pub text_in : Text → List ℕ → Option (List ℕ)
text_in (Bytes n) out = some (take n out)
text_in Bad out = none

abbrev pub size_in : Text → ℕ
size_in (Bytes n) = n
size_in Bad = 0

pub record Unescapes (text : List ℕ) (room : ℕ) (r : Text) (out : List ℕ) : Type 0 where
  pub holds : text_in r out ≡ cut room (unescaped text)
  pub inside : size_in r ≤ room
