-- The definition computed on small texts, and on lists of lower ends.
use mathlib.Core.Path.{◌≡◌, refl}
use mathlib.Core.Bool.{true, false}
use mathlib.Core.List.{List, [], ◌∷◌, ◌++◌, map}
use Prim.Native.Nat.{ℕ}
use Rattle.ints.specs.Lists.{chosen}
use Rattle.ints.specs.Refusals.{Verdict, gives, refuses}
use Rattle.plan.specs.Checks.{tangled_checks_of}
use Rattle.plan.specs.Walk.{inner_below, walk_from, walk}
use Rattle.plan.specs.declared.walk.Walk.{Walk}
use Rattle.plan.specs.inner.Graph.{segment}
use Rattle.text.specs.Bytes.{bytes}
use Rattle.text.specs.Reading.{tangled_reading}
use Rattle.text.proofs.Cases.{text_open}
use Rattle.text_walk.specs.Walks.{walk_of, text_walk}

abbrev clear : ℕ → Walk
clear n = record { crossed = false; taken = n }

abbrev crossed : ℕ → Walk
crossed n = record { crossed = true; taken = n }

-- "a descent at the second: 2 taken"; what comes after the first is not taken
abbrev lowers_walked : List ℕ → Walk
lowers_walked bs = walk_from 0 0 (map (segment 0) bs)

counts : map lowers_walked ([] ∷ (7 ∷ []) ∷ (7 ∷ 6 ∷ []) ∷ (5 ∷ 7 ∷ 6 ∷ 9 ∷ 8 ∷ []) ∷ (5 ∷ 6 ∷ 8 ∷ []) ∷ [])
    ≡ clear 0 ∷ clear 1 ∷ crossed 2 ∷ crossed 3 ∷ clear 3 ∷ []
unfolding walk_from
counts = refl

-- four levels; between the second and the third a box stands among vias, and two cables cross, whatever their ratings
abbrev tangled_text : List ℕ
tangled_text =
    bytes "(plan 4 1 1)\n(level (box 1) (box 1))\n(level (via) (box 1) (via) (via))\n(level (box 1) (via) (via))\n(level (box 1) (box 1))\n"
    ++ bytes "(seg 0 2)\n(seg 0 4)\n(seg 1 5)\n(seg 2 8 100)\n(seg 3 6)\n(seg 4 7)\n(seg 5 6)\n(seg 7 9)\n(seg 8 10)\n(end)\n"

abbrev walks : List ℕ → List (Verdict Walk)
walks text = map (λ l. text_walk l text) (0 ∷ 1 ∷ 2 ∷ 3 ∷ 4 ∷ [])

-- from the top no segment is inner; a segment from a via to a box is none
found : walks tangled_text ≡ refuses 7 ∷ gives (clear 0) ∷ gives (crossed 2) ∷ gives (clear 0) ∷ refuses 7 ∷ []
unfolding text_open text_walk walk_of walk walk_from inner_below chosen tangled_reading tangled_checks_of
found = refl

-- 1 to 5 come before 7
refused : map (λ t. text_walk 9 t) (bytes "(plan" ∷ bytes "(plan 1 0 1)\n(level (box 1))\n(end)\n" ∷ bytes "(plan 1 1 1)\n(level (box 1))\n(seg 0 0)\n(end)\n" ∷ [])
    ≡ refuses 1 ∷ refuses 2 ∷ refuses 3 ∷ []
unfolding text_open text_walk walk_of tangled_reading tangled_checks_of
refused = refl
