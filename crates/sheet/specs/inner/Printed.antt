-- What is printed of an answer, in the buffer that it left: r bytes at the front of `out`. Each refusal has a number.
use Rattle.std.specs.Prelude.{◌≡◌, List, ℕ, Result, Ok, Err}
use Rattle.text_write.specs.Again.{refused_line}
use Rattle.text_write.specs.inner.Written.{Fronts}

abbrev pub Prints : {R : Type 0} → (R → ℕ) → Result ℕ R → List ℕ → ℕ → List ℕ → Type 0
Prints number_of (Ok n) left r out = (r ≡ n) × (out ≡ left)
Prints number_of (Err f) left r out = Fronts (refused_line (number_of f)) left r out
