-- Document 01's cases 8 and 9 and texts with ratings, computed from the definition.
use mathlib.Core.Path.{◌≡◌, refl}
use mathlib.Core.Bool.{false}
use mathlib.Core.List.{List, [], ◌∷◌, ◌++◌, map}
use Prim.Native.Nat.{ℕ}
use Rattle.plan.specs.Plan.{PlanData, data_of}
use Rattle.text.specs.Bytes.{bytes}
use Rattle.text.specs.Decimal.{digits, decimal, signed}
use Rattle.text.specs.Parser.{word, many, digits_after, number}
use Rattle.text.specs.Form.{box, via, level_line, rating, segment_line, plan_text, form_of}
use Rattle.text.specs.Reading.{Reading, accepted, refused, check2, stored, tests_by, reading}
use Rattle.plan.proofs.Open.{plan_open}

-- Named on an `unfolding` line, it opens every definition of this floor and of the floors below.
unfoldable pub text_open : Unit {0}
unfolding plan_open digits decimal signed word many digits_after number box via level_line rating segment_line plan_text form_of check2 stored tests_by reading
text_open = tt

pub case8 : reading (bytes "(plan 2 1 1)\n(level (via))\n(level (box 1))\n(seg 0 1)\n(end)\n") ≡ refused 5
unfolding text_open
case8 = refl

pub case9 : reading (bytes "(plan 2 1 1)\n(level (box 1))\n(level (box 1))\n(seg 0 1)\n(seg 0 1)\n(end)\n") ≡ refused 4
unfolding text_open
case9 = refl

-- ---- ratings: two boxes, one above the other, and what is written of their segment
abbrev reads : List ℕ → Reading
reads segments = reading (bytes "(plan 2 1 1)\n(level (box 1))\n(level (box 1))\n" ++ segments ++ bytes "(end)\n")

abbrev joined : ℕ → PlanData
joined w = data_of 2 1 1 (1 ∷ 1 ∷ []) (false ∷ false ∷ []) (1 ∷ 1 ∷ []) (0 ∷ []) (1 ∷ []) (w ∷ [])

pub ratings-taken : map reads (bytes "(seg 0 1)\n" ∷ bytes "(seg 0 1 2)\n" ∷ bytes "(seg 0 1 100)\n" ∷ []) ≡ accepted (joined 1) ∷ accepted (joined 2) ∷ accepted (joined 100) ∷ []
unfolding text_open
ratings-taken = refl

-- outside 2 to 100: a written 1 too, and before the ends are looked at
pub ratings-outside : map reads (bytes "(seg 0 1 0)\n" ∷ bytes "(seg 0 1 1)\n" ∷ bytes "(seg 0 1 101)\n" ∷ bytes "(seg 0 9 1)\n" ∷ [])
    ≡ refused 2 ∷ refused 2 ∷ refused 2 ∷ refused 2 ∷ []
unfolding text_open
ratings-outside = refl

-- six digits, a leading zero, two spaces, a space and no number, a fourth number
pub ratings-unformed : map reads (bytes "(seg 0 1 100000)\n" ∷ bytes "(seg 0 1 02)\n" ∷ bytes "(seg 0 1  2)\n" ∷ bytes "(seg 0 1 )\n" ∷ bytes "(seg 0 1 2 2)\n" ∷ [])
    ≡ refused 1 ∷ refused 1 ∷ refused 1 ∷ refused 1 ∷ refused 1 ∷ []
unfolding text_open
ratings-unformed = refl

-- another rating is no excuse for a repeated pair
pub ratings-repeated : map reads (bytes "(seg 0 1)\n(seg 0 1 2)\n" ∷ bytes "(seg 0 1 3)\n(seg 0 1 2)\n" ∷ []) ≡ refused 4 ∷ refused 4 ∷ []
unfolding text_open
ratings-repeated = refl
