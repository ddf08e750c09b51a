-- Text as it stands in XML: & is &amp;, < is &lt;, > is &gt;, all else is as it is.
use Rattle.std.specs.Prelude.{cond, List, [], ◌∷◌, ◌++◌, ℕ, eqb}
use Rattle.text.specs.Bytes.{bytes}

unfoldable pub escaped_byte : ℕ → List ℕ
escaped_byte b = cond (eqb b 38) (bytes "&amp;") (cond (eqb b 60) (bytes "&lt;") (cond (eqb b 62) (bytes "&gt;") (b ∷ [])))

unfoldable pub escaped : List ℕ → List ℕ
escaped [] = []
escaped (b ∷ s) = escaped_byte b ++ escaped s
