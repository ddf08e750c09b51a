-- What is written into a lent buffer that has room for it; else 14.
use Rattle.std.specs.Prelude.{List, [], ◌∷◌, ℕ, length}
use Rattle.ints.specs.Refusals.{first_refusal}
use Rattle.sheet.specs.Tests.{test14}
use Rattle.sheet.specs.Calls.{BufferOut, TextOut, buffer_after}

-- Elements with a count, if the buffer has room for them; a text, with its length.
abbrev pub fitted : {A : Type 0} → ℕ → List A → List A → BufferOut A
fitted count content buffer = buffer_after (first_refusal (test14 content buffer ∷ [])) count content buffer

abbrev pub fitted_text : List ℕ → List ℕ → TextOut
fitted_text text buffer = fitted (length text) text buffer
