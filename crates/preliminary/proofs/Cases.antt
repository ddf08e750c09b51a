-- Preliminary positions computed from the definition. Each case tells a wrong rule from the right one.
use mathlib.Core.Path.{◌≡◌, refl}
use mathlib.Core.Bool.{true, false}
use mathlib.Core.List.{[], ◌∷◌}
use lib.IntN.{pos, negsuc}
use Rattle.plan.specs.Plan.{PlanData, data_of}
use Rattle.plan.specs.Acceptable.{acceptable}
use Rattle.preliminary.specs.Positions.{preliminary}
use Rattle.preliminary.proofs.Open.{preliminary_open}
use Rattle.plan.proofs.Case1.{case1}

-- Case 1: positions are in half steps, not halved.
-- it passes the checks, so the theorems speak of it
pub case1-acceptable : acceptable case1 ≡ true
unfolding preliminary_open
case1-acceptable = refl

pub case1-positions : preliminary case1 ≡ negsuc 7 ∷ pos 8 ∷ negsuc 4 ∷ pos 5 ∷ pos 0 ∷ []
unfolding preliminary_open
case1-positions = refl

-- The ⌈s/2⌉-th smallest in a shift, whatever the ratings: by them the first neighbour would be the middle one.
abbrev pub shifted : PlanData
shifted =
    data_of 2 1 10000
    (3 ∷ 1 ∷ [])
    (false ∷ false ∷ false ∷ false ∷ [])
    (199 ∷ 1 ∷ 200 ∷ 199 ∷ [])
    (0 ∷ 1 ∷ 2 ∷ []) (3 ∷ 3 ∷ 3 ∷ [])
    (100 ∷ 1 ∷ 1 ∷ [])

pub shifted-positions : preliminary shifted ≡ negsuc 402 ∷ negsuc 0 ∷ pos 403 ∷ negsuc 0 ∷ []
unfolding preliminary_open
shifted-positions = refl

-- In a shift only segments to a lower class count. Class 2 is the strand 2, 4, 5 and box 6: segments to its own class (2 to 4, 4 to 5)
-- and to higher ones (down from 5 to 7, up from 6 to 3) would each change the middle.
abbrev pub lower_only : PlanData
lower_only =
    data_of 5 1 1
    (2 ∷ 1 ∷ 2 ∷ 2 ∷ 1 ∷ [])
    (false ∷ false ∷ true ∷ false ∷ true ∷ true ∷ false ∷ false ∷ [])
    (1 ∷ 1 ∷ 0 ∷ 1 ∷ 0 ∷ 0 ∷ 1 ∷ 1 ∷ [])
    (1 ∷ 2 ∷ 3 ∷ 4 ∷ 5 ∷ []) (2 ∷ 4 ∷ 6 ∷ 5 ∷ 7 ∷ [])
    (1 ∷ 1 ∷ 1 ∷ 1 ∷ 1 ∷ [])

pub lower-only-acceptable : acceptable lower_only ≡ true
unfolding preliminary_open
lower-only-acceptable = refl

pub lower-only-positions : preliminary lower_only ≡ negsuc 2 ∷ pos 3 ∷ pos 3 ∷ negsuc 0 ∷ pos 3 ∷ pos 3 ∷ pos 7 ∷ pos 3 ∷ []
unfolding preliminary_open
lower-only-positions = refl
