-- Small texts of names, computed.
use mathlib.Core.Path.{◌≡◌, refl}
use mathlib.Core.Bool.{true, false}
use mathlib.Core.List.{List, [], ◌∷◌, ◌++◌, map}
use Prim.Native.Nat.{ℕ}
use Rattle.text.specs.Bytes.{bytes}
use Rattle.text.specs.Parser.{number, digits_after, word}
use Rattle.script_words.specs.Parts.{parts}
use Rattle.picture_names.specs.Chars.{begun_four, begun_wide, begun, ranged, seen_more, seen_after, is_name}
use Rattle.picture_names.specs.Names.{Names, bad, named, number_of, names_from, names_of}

-- of a box, a via and two boxes
abbrev reads : List ℕ → Names
reads s = names_of (false ∷ true ∷ false ∷ false ∷ []) s

pub texts : map reads (
    []
    ∷ bytes "0 Tea\n3 a b\n"
    ∷ bytes "0 Tea\n0 Tea\n"
    ∷ bytes "1 Tea\n"
    ∷ bytes "4 Tea\n"
    ∷ bytes "0 Tea\n2 a  b\n"
    ∷ bytes "0 Tea\n2 a \n"
    ∷ bytes "0 Tea\n2 \n"
    ∷ bytes "0 Tea\n02 a\n"
    ∷ bytes "0 Tea\n2 a"
    ∷ bytes "0 Tea\n\n"
    ∷ (bytes "2 " ++ 0xC3 ∷ 0xA9 ∷ bytes "\n")
    ∷ (bytes "2 " ++ 0xC3 ∷ bytes "\n") ∷ []
    ) ≡ (
    named ([] ∷ [] ∷ [] ∷ [] ∷ [])
    ∷ named (bytes "Tea" ∷ [] ∷ [] ∷ bytes "a b" ∷ [])
    ∷ bad 2
    ∷ bad 1
    ∷ bad 1
    ∷ bad 2
    ∷ bad 2
    ∷ bad 2
    ∷ bad 2
    ∷ bad 2
    ∷ bad 2
    ∷ named ([] ∷ [] ∷ (0xC3 ∷ 0xA9 ∷ []) ∷ [] ∷ [])
    ∷ bad 1 ∷ []
    )
unfolding names_of names_from number_of number digits_after word parts is_name seen_after seen_more ranged begun_four begun_wide begun
texts = refl

-- overlong forms, surrogates, what lies past U+10FFFF, U+FFFE and U+FFFF are none; U+D7FF, U+FFFD and U+10FFFF are
pub characters : map is_name (
    (0xC1 ∷ 0xBF ∷ [])
    ∷ (0xE0 ∷ 0x9F ∷ 0xBF ∷ [])
    ∷ (0xED ∷ 0xA0 ∷ 0x80 ∷ [])
    ∷ (0xF4 ∷ 0x90 ∷ 0x80 ∷ 0x80 ∷ [])
    ∷ (0xEF ∷ 0xBF ∷ 0xBE ∷ [])
    ∷ (0xEF ∷ 0xBF ∷ 0xBF ∷ [])
    ∷ (0x7F ∷ [])
    ∷ (0xED ∷ 0x9F ∷ 0xBF ∷ [])
    ∷ (0xEF ∷ 0xBF ∷ 0xBD ∷ [])
    ∷ (0xEF ∷ 0xBE ∷ 0xBF ∷ [])
    ∷ (0xF4 ∷ 0x8F ∷ 0xBF ∷ 0xBF ∷ []) ∷ []
    ) ≡ (false ∷ false ∷ false ∷ false ∷ false ∷ false ∷ false ∷ true ∷ true ∷ true ∷ true ∷ [])
unfolding is_name seen_after seen_more ranged begun_four begun_wide begun
characters = refl
