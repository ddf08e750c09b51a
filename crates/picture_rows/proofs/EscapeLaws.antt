-- Escaped bytes one after another, and how long they are.
use mathlib.Core.Path.{◌≡◌}
use mathlib.Core.List.{List, [], ◌∷◌, ◌++◌}
use Prim.Native.Nat.{ℕ, ◌+◌, ◌*◌, ◌≤◌, ◌<◌}
use mathlib.Core.Bool.{cond}
use native.Mathlib.Omega.{arith}
use native.Mathlib.Numerals.{add-one}
use lib.Dec.{eqb}
use lib.ListN.{length, get_or, drop, drop_of_length-le, length-append}
use lib.Seq.{drop-cons}
use Rattle.ints.proofs.Laws.{if-ind}
use Rattle.text.specs.Bytes.{bytes}
use Rattle.picture_rows.specs.Escape.{escaped_byte, escaped}

module _ (b : ℕ) where
  byte-short : length (escaped_byte b) ≤ 5
  unfolding escaped_byte
  byte-short =
      let other = cond (eqb b 62) (bytes "&gt;") (b ∷ []) in
      if-ind (eqb b 38) (bytes "&amp;") (cond (eqb b 60) (bytes "&lt;") other) (λ w. length w ≤ 5) (λ e. omega arith)
      (λ e. if-ind (eqb b 60) (bytes "&lt;") other (λ w. length w ≤ 5) (λ f. omega arith)
      (λ f. if-ind (eqb b 62) (bytes "&gt;") (b ∷ []) (λ w. length w ≤ 5) (λ g. omega arith) (λ g. omega arith)))

module _ (s : List ℕ) (i : ℕ) where
  pub escaped-on : i < length s → escaped (drop i s) ≡ escaped_byte (get_or s i 0) ++ escaped (drop (i + 1) s)
  unfolding escaped
  escaped-on h = rw (add-one, drop-cons s i 0 h)

  pub escaped-end : length s ≤ i → escaped (drop i s) ≡ []
  unfolding escaped
  escaped-end h = rw (drop_of_length-le s h)

-- no byte takes more than five
pub escaped-short : (s : List ℕ) → length (escaped s) ≤ 5 * length s
unfolding escaped
escaped-short [] = omega arith
escaped-short (b ∷ s) = omega (arith, length-append (escaped_byte b) (escaped s), byte-short b, escaped-short s)
