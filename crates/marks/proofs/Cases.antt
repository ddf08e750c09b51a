-- Marks of document 01's case 1, computed: a box, a bend, and the line from the one to the other. `fin s m e` is m × 2^e,
-- negative if s. Assumes nothing.
use mathlib.Core.Path.{◌≡◌, refl}
use mathlib.Core.Bool.{true, false}
use mathlib.Core.List.{List, [], ◌∷◌, map}
use lib.IntN.{ℤ, pos, negsuc}
use lib.Count.{count_trailing_zeros}
use lib.Ieee.{Float, fin, mul, round, of_int, of_bits, of_fields, odd, size, units, span, climb}
use Rattle.plan.specs.Plan.{level_in, level_of, height_of}
use Rattle.marks.specs.Half.{point5, half_of, whole_of}
use Rattle.marks.specs.Marks.{whole_mark_of, mark_of, five_of}
use Rattle.plan.proofs.Case1.{case1}

abbrev finals : List ℤ
finals = negsuc 4 ∷ pos 11 ∷ negsuc 4 ∷ pos 8 ∷ negsuc 4 ∷ []

-- 0, 1, 2, 3 and 10, and -2.5, the position -5 in steps
abbrev n0 : Float
n0 = fin false 0 (pos 0)

abbrev n1 : Float
n1 = fin false 1 (pos 0)

abbrev n2 : Float
n2 = fin false 1 (pos 1)

abbrev n3 : Float
n3 = fin false 3 (pos 0)

abbrev n10 : Float
n10 = fin false 5 (pos 1)

abbrev left : Float
left = fin true 5 (negsuc 0)

box-bend-line : map (λ n. five_of (mark_of case1 finals n)) (0 ∷ 2 ∷ 5 ∷ [])
    ≡ (n0 ∷ left ∷ n0 ∷ n3 ∷ n0 ∷ []) ∷ (n1 ∷ left ∷ n10 ∷ n0 ∷ n0 ∷ []) ∷ (n2 ∷ left ∷ n0 ∷ left ∷ n10 ∷ []) ∷ []
unfolding mark_of whole_mark_of five_of height_of level_of level_in half_of whole_of point5 mul of_int of_bits of_fields round odd units size span climb count_trailing_zeros
box-bend-line = refl
