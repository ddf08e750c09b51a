-- The definition computed on a few texts.
use mathlib.Core.Path.{◌≡◌, refl}
use mathlib.Core.List.{[], ◌∷◌}
use mathlib.Core.Option.{none, some}
use Rattle.text.specs.Bytes.{bytes}
use Rattle.script_texts.specs.Texts.{hex_value, unescaped}

text : unescaped (bytes "a\\n\\t\\r\\\\\\x00\\xfF b") ≡ some (97 ∷ 10 ∷ 9 ∷ 13 ∷ 92 ∷ 0 ∷ 255 ∷ 32 ∷ 98 ∷ [])
unfolding unescaped hex_value
text = refl

no_text : unescaped (bytes "\\x4") ≡ none
unfolding unescaped hex_value
no_text = refl

no-escape : unescaped (bytes "\\X41") ≡ none
unfolding unescaped hex_value
no-escape = refl

many : unescaped (bytes "\\x41\\x41\\x41\\x41\\x41\\x41\\x41\\x41\\x41\\x41\\x41\\x41\\x41\\x41\\x41\\x41\\x41\\x41\\x41\\x41\\x41\\x41\\x41\\x41\\x41\\x41\\n") ≡ some (bytes "AAAAAAAAAAAAAAAAAAAAAAAAAA\n")
unfolding unescaped hex_value
many = refl
