-- Drawings of small plans, computed from the definitions. Each tells a wrong rule from the right one.
use mathlib.Core.Path.{◌≡◌, refl}
use mathlib.Core.Bool.{true, false}
use mathlib.Core.List.{List, [], ◌∷◌, map}
use Prim.Native.Nat.{ℕ}
use lib.IntN.{ℤ, pos, negsuc}
use Rattle.plan.specs.Plan.{PlanData, data_of}
use Rattle.passes.specs.Drawing.{BoxAt, Placing, drawing_of}
use Rattle.passes.specs.Words.{bends_at}
use Rattle.passes.proofs.Open.{passes_open}
use Rattle.passes.proofs.Tried.{words_hold, tried_open}
use Rattle.plan.proofs.Case1.{case1}

abbrev at : ℕ → ℤ → BoxAt
at v x = record { vertex = v; position = x }

abbrev place : ℕ → ℕ → List BoxAt → Placing
place q l bs = record { pass = q; level = l; boxes = bs }

-- Case 1: open runs take on their distances, that to the bound included.
pub case1-drawn : drawing_of case1 ≡ record {
  preliminary = negsuc 7 ∷ pos 8 ∷ negsuc 4 ∷ pos 5 ∷ pos 0 ∷ [];
  final = negsuc 4 ∷ pos 11 ∷ negsuc 4 ∷ pos 8 ∷ pos 1 ∷ [];
  placings =
      place 1 1 (at 0 (negsuc 7) ∷ at 1 (pos 8) ∷ []) ∷
      place 1 2 (at 3 (pos 8) ∷ []) ∷
      place 1 3 (at 4 (pos 1) ∷ []) ∷
      place 2 3 (at 4 (pos 1) ∷ []) ∷
      place 2 2 (at 3 (pos 8) ∷ []) ∷
      place 2 1 (at 0 (negsuc 4) ∷ at 1 (pos 11) ∷ []) ∷
      [];
}
unfolding passes_open
case1-drawn = refl

pub case1-words : words_hold case1 ≡ true
unfolding passes_open tried_open
case1-words = refl

-- A settled run is not placed again in pass 2; distances are doubled after the sum; a bounded run becomes ready in pass 2.
abbrev pub settled : PlanData
settled =
    data_of 5 1 1
    (2 ∷ 3 ∷ 3 ∷ 2 ∷ 2 ∷ [])
    (false ∷ false ∷ true ∷ false ∷ true ∷ true ∷ false ∷ true ∷ true ∷ true ∷ false ∷ false ∷ [])
    (1 ∷ 1 ∷ 0 ∷ 9 ∷ 0 ∷ 0 ∷ 1 ∷ 0 ∷ 0 ∷ 0 ∷ 1 ∷ 1 ∷ [])
    (0 ∷ 1 ∷ 2 ∷ 4 ∷ 5 ∷ 7 ∷ 8 ∷ 9 ∷ []) (2 ∷ 4 ∷ 5 ∷ 7 ∷ 8 ∷ 9 ∷ 10 ∷ 11 ∷ [])
    (1 ∷ 1 ∷ 1 ∷ 1 ∷ 1 ∷ 1 ∷ 1 ∷ 1 ∷ [])

pub settled-drawn : drawing_of settled ≡ record {
  preliminary = negsuc 2 ∷ pos 3 ∷ negsuc 19 ∷ pos 0 ∷ pos 20 ∷ negsuc 19 ∷ pos 0 ∷ pos 20 ∷ negsuc 19 ∷ pos 20 ∷ negsuc 2 ∷ pos 3 ∷ [];
  final = negsuc 19 ∷ pos 20 ∷ negsuc 19 ∷ pos 0 ∷ pos 20 ∷ negsuc 19 ∷ pos 0 ∷ pos 20 ∷ negsuc 19 ∷ pos 20 ∷ negsuc 19 ∷ pos 20 ∷ [];
  placings =
      place 1 1 (at 0 (negsuc 2) ∷ at 1 (pos 3) ∷ []) ∷
      place 1 3 (at 6 (pos 0) ∷ []) ∷
      place 1 5 (at 10 (negsuc 19) ∷ at 11 (pos 20) ∷ []) ∷
      place 2 5 (at 10 (negsuc 19) ∷ at 11 (pos 20) ∷ []) ∷
      place 2 1 (at 0 (negsuc 19) ∷ at 1 (pos 20) ∷ []) ∷
      [];
}
unfolding passes_open
settled-drawn = refl

pub settled-words : words_hold settled ≡ true
unfolding passes_open tried_open
settled-words = refl

-- A bounded run that only pass 3 places; an empty run that is not settled keeps another from being ready.
abbrev pub third-pass : PlanData
third-pass =
    data_of 5 1 1
    (1 ∷ 4 ∷ 4 ∷ 3 ∷ 1 ∷ [])
    (false ∷ true ∷ false ∷ true ∷ false ∷ true ∷ true ∷ true ∷ true ∷ true ∷ false ∷ true ∷ false ∷ [])
    (1 ∷ 0 ∷ 2 ∷ 0 ∷ 1 ∷ 0 ∷ 0 ∷ 0 ∷ 0 ∷ 0 ∷ 1 ∷ 0 ∷ 1 ∷ [])
    (0 ∷ 0 ∷ 1 ∷ 3 ∷ 4 ∷ 4 ∷ 5 ∷ 6 ∷ 7 ∷ 8 ∷ 9 ∷ 11 ∷ []) (1 ∷ 3 ∷ 5 ∷ 7 ∷ 6 ∷ 8 ∷ 10 ∷ 9 ∷ 10 ∷ 11 ∷ 12 ∷ 12 ∷ [])
    (1 ∷ 1 ∷ 1 ∷ 1 ∷ 1 ∷ 1 ∷ 1 ∷ 1 ∷ 1 ∷ 1 ∷ 1 ∷ 1 ∷ [])

pub third-pass-drawn : drawing_of third-pass ≡ record {
  preliminary = pos 0 ∷ negsuc 5 ∷ pos 0 ∷ pos 6 ∷ pos 10 ∷ negsuc 5 ∷ pos 0 ∷ pos 6 ∷ pos 10 ∷ pos 0 ∷ pos 4 ∷ pos 10 ∷ pos 4 ∷ [];
  final = pos 0 ∷ negsuc 5 ∷ pos 0 ∷ pos 6 ∷ pos 10 ∷ negsuc 5 ∷ pos 0 ∷ pos 6 ∷ pos 10 ∷ pos 0 ∷ pos 4 ∷ pos 10 ∷ pos 5 ∷ [];
  placings =
      place 1 1 (at 0 (pos 0) ∷ []) ∷
      place 1 2 (at 4 (pos 10) ∷ []) ∷
      place 1 5 (at 12 (pos 5) ∷ []) ∷
      place 2 5 (at 12 (pos 5) ∷ []) ∷
      place 2 2 (at 4 (pos 10) ∷ []) ∷
      place 2 1 (at 0 (pos 0) ∷ []) ∷
      place 3 4 (at 10 (pos 4) ∷ []) ∷
      [];
}
unfolding passes_open
third-pass-drawn = refl

pub third-pass-words : words_hold third-pass ≡ true
unfolding passes_open tried_open
third-pass-words = refl

-- The nearest via with a via on the preceding level, where a nearer via has none.
abbrev pub nearest : PlanData
nearest =
    data_of 4 1 1
    (1 ∷ 4 ∷ 4 ∷ 1 ∷ [])
    (false ∷ true ∷ true ∷ false ∷ true ∷ true ∷ false ∷ false ∷ true ∷ false ∷ [])
    (1 ∷ 0 ∷ 0 ∷ 1 ∷ 0 ∷ 0 ∷ 1 ∷ 1 ∷ 0 ∷ 1 ∷ [])
    (0 ∷ 0 ∷ 0 ∷ 1 ∷ 2 ∷ 4 ∷ 5 ∷ 8 ∷ []) (1 ∷ 2 ∷ 4 ∷ 5 ∷ 6 ∷ 8 ∷ 9 ∷ 9 ∷ [])
    (1 ∷ 1 ∷ 1 ∷ 1 ∷ 1 ∷ 1 ∷ 1 ∷ 1 ∷ [])

pub nearest-drawn : drawing_of nearest ≡ record {
  preliminary = pos 0 ∷ negsuc 3 ∷ pos 0 ∷ pos 4 ∷ pos 10 ∷ negsuc 3 ∷ pos 0 ∷ pos 6 ∷ pos 10 ∷ pos 3 ∷ [];
  final = pos 0 ∷ negsuc 3 ∷ pos 0 ∷ pos 4 ∷ pos 10 ∷ negsuc 3 ∷ pos 0 ∷ pos 6 ∷ pos 10 ∷ pos 3 ∷ [];
  placings =
      place 1 1 (at 0 (pos 0) ∷ []) ∷
      place 1 4 (at 9 (pos 3) ∷ []) ∷
      place 2 4 (at 9 (pos 3) ∷ []) ∷
      place 2 2 (at 3 (pos 4) ∷ []) ∷
      place 2 1 (at 0 (pos 0) ∷ []) ∷
      [];
}
unfolding passes_open
nearest-drawn = refl

pub nearest-words : words_hold nearest ≡ true
unfolding passes_open tried_open
nearest-words = refl

-- Pass 3 goes against the level above.
abbrev pub above-third : PlanData
above-third =
    data_of 6 1 1
    (1 ∷ 3 ∷ 4 ∷ 4 ∷ 4 ∷ 1 ∷ [])
    (false ∷ false ∷ true ∷ false ∷ true ∷ false ∷ true ∷ true ∷ true ∷ true ∷ true ∷ true ∷ true ∷ true ∷ false ∷ true ∷ false ∷ [])
    (1 ∷ 1 ∷ 0 ∷ 1 ∷ 0 ∷ 1 ∷ 0 ∷ 0 ∷ 0 ∷ 0 ∷ 0 ∷ 0 ∷ 0 ∷ 0 ∷ 2 ∷ 0 ∷ 1 ∷ [])
    (0 ∷ 1 ∷ 1 ∷ 2 ∷ 3 ∷ 4 ∷ 5 ∷ 6 ∷ 7 ∷ 8 ∷ 9 ∷ 10 ∷ 11 ∷ 12 ∷ 13 ∷ 15 ∷ []) (2 ∷ 4 ∷ 7 ∷ 6 ∷ 5 ∷ 8 ∷ 9 ∷ 10 ∷ 11 ∷ 12 ∷ 13 ∷ 14 ∷ 15 ∷ 16 ∷ 16 ∷ 16 ∷ [])
    (1 ∷ 1 ∷ 1 ∷ 1 ∷ 1 ∷ 1 ∷ 1 ∷ 1 ∷ 1 ∷ 1 ∷ 1 ∷ 1 ∷ 1 ∷ 1 ∷ 1 ∷ 1 ∷ [])

pub above-third-drawn : drawing_of above-third ≡ record {
  preliminary = pos 0 ∷ negsuc 3 ∷ pos 0 ∷ pos 4 ∷ negsuc 9 ∷ negsuc 5 ∷ pos 0 ∷ pos 6 ∷ negsuc 9 ∷ negsuc 5 ∷ pos 0 ∷ pos 6 ∷ negsuc 9 ∷ negsuc 5 ∷ pos 0 ∷ pos 6 ∷ negsuc 5 ∷ [];
  final = pos 0 ∷ negsuc 3 ∷ pos 0 ∷ pos 4 ∷ negsuc 9 ∷ negsuc 3 ∷ pos 0 ∷ pos 6 ∷ negsuc 9 ∷ negsuc 5 ∷ pos 0 ∷ pos 6 ∷ negsuc 9 ∷ negsuc 5 ∷ pos 0 ∷ pos 6 ∷ negsuc 5 ∷ [];
  placings =
      place 1 1 (at 0 (pos 0) ∷ []) ∷
      place 1 2 (at 1 (negsuc 3) ∷ []) ∷
      place 1 2 (at 3 (pos 4) ∷ []) ∷
      place 1 6 (at 16 (negsuc 5) ∷ []) ∷
      place 2 6 (at 16 (negsuc 5) ∷ []) ∷
      place 2 2 (at 1 (negsuc 3) ∷ []) ∷
      place 2 2 (at 3 (pos 4) ∷ []) ∷
      place 2 1 (at 0 (pos 0) ∷ []) ∷
      place 3 3 (at 5 (negsuc 3) ∷ []) ∷
      [];
}
unfolding passes_open
above-third-drawn = refl

pub above-third-words : words_hold above-third ≡ true
unfolding passes_open tried_open
above-third-words = refl

-- Runs go from left to right.
abbrev pub left-to-right : PlanData
left-to-right =
    data_of 3 2 6687
    (1 ∷ 3 ∷ 3 ∷ [])
    (false ∷ false ∷ true ∷ false ∷ false ∷ false ∷ false ∷ [])
    (1 ∷ 1 ∷ 0 ∷ 1 ∷ 1 ∷ 1 ∷ 1 ∷ [])
    (0 ∷ 0 ∷ 0 ∷ 1 ∷ 1 ∷ 1 ∷ 2 ∷ 3 ∷ 3 ∷ 3 ∷ []) (1 ∷ 2 ∷ 3 ∷ 4 ∷ 5 ∷ 6 ∷ 6 ∷ 4 ∷ 5 ∷ 6 ∷ [])
    (1 ∷ 1 ∷ 1 ∷ 1 ∷ 1 ∷ 1 ∷ 1 ∷ 1 ∷ 1 ∷ 1 ∷ [])

pub left-to-right-drawn : drawing_of left-to-right ≡ record {
  preliminary = pos 0 ∷ negsuc 5 ∷ pos 0 ∷ pos 6 ∷ negsuc 9 ∷ negsuc 1 ∷ pos 6 ∷ [];
  final = pos 0 ∷ negsuc 5 ∷ pos 0 ∷ pos 6 ∷ negsuc 9 ∷ negsuc 1 ∷ pos 6 ∷ [];
  placings =
      place 1 1 (at 0 (pos 0) ∷ []) ∷
      place 1 2 (at 1 (negsuc 5) ∷ []) ∷
      place 1 2 (at 3 (pos 6) ∷ []) ∷
      place 1 3 (at 4 (negsuc 9) ∷ at 5 (negsuc 1) ∷ at 6 (pos 6) ∷ []) ∷
      place 2 3 (at 4 (negsuc 9) ∷ at 5 (negsuc 1) ∷ at 6 (pos 6) ∷ []) ∷
      place 2 2 (at 1 (negsuc 5) ∷ []) ∷
      place 2 2 (at 3 (pos 6) ∷ []) ∷
      place 2 1 (at 0 (pos 0) ∷ []) ∷
      [];
}
unfolding passes_open
left-to-right-drawn = refl

pub left-to-right-words : words_hold left-to-right ≡ true
unfolding passes_open tried_open
left-to-right-words = refl

-- A cable of one via whose two segments slant on one straight line does not bend.
abbrev pub slanting : PlanData
slanting =
    data_of 3 1 4
    (3 ∷ 6 ∷ 3 ∷ [])
    (false ∷ false ∷ false ∷ true ∷ true ∷ false ∷ true ∷ true ∷ true ∷ false ∷ false ∷ false ∷ [])
    (1 ∷ 1 ∷ 1 ∷ 0 ∷ 0 ∷ 1 ∷ 0 ∷ 0 ∷ 0 ∷ 1 ∷ 1 ∷ 1 ∷ [])
    (0 ∷ 0 ∷ 0 ∷ 1 ∷ 1 ∷ 2 ∷ 2 ∷ 2 ∷ 3 ∷ 4 ∷ 5 ∷ 5 ∷ 5 ∷ 6 ∷ 7 ∷ 8 ∷ []) (3 ∷ 4 ∷ 5 ∷ 5 ∷ 7 ∷ 5 ∷ 6 ∷ 8 ∷ 9 ∷ 11 ∷ 9 ∷ 10 ∷ 11 ∷ 10 ∷ 11 ∷ 11 ∷ [])
    (1 ∷ 1 ∷ 1 ∷ 1 ∷ 1 ∷ 1 ∷ 1 ∷ 1 ∷ 1 ∷ 1 ∷ 1 ∷ 1 ∷ 1 ∷ 1 ∷ 1 ∷ 1 ∷ [])

pub slanting-drawn : drawing_of slanting ≡ record {
  preliminary = negsuc 5 ∷ pos 0 ∷ pos 6 ∷ negsuc 6 ∷ negsuc 4 ∷ negsuc 0 ∷ pos 3 ∷ pos 5 ∷ pos 7 ∷ negsuc 6 ∷ negsuc 0 ∷ pos 5 ∷ [];
  final = negsuc 4 ∷ pos 1 ∷ pos 7 ∷ negsuc 6 ∷ negsuc 4 ∷ negsuc 0 ∷ pos 3 ∷ pos 5 ∷ pos 7 ∷ negsuc 6 ∷ negsuc 0 ∷ pos 5 ∷ [];
  placings =
      place 1 1 (at 0 (negsuc 5) ∷ at 1 (pos 0) ∷ at 2 (pos 6) ∷ []) ∷
      place 1 3 (at 9 (negsuc 6) ∷ at 10 (negsuc 0) ∷ at 11 (pos 5) ∷ []) ∷
      place 2 3 (at 9 (negsuc 6) ∷ at 10 (negsuc 0) ∷ at 11 (pos 5) ∷ []) ∷
      place 2 1 (at 0 (negsuc 4) ∷ at 1 (pos 1) ∷ at 2 (pos 7) ∷ []) ∷
      [];
}
unfolding passes_open
slanting-drawn = refl

pub slanting-words : words_hold slanting ≡ true
unfolding passes_open tried_open
slanting-words = refl

pub slanting-bends :
    map (bends_at slanting (drawing_of slanting).final) (3 ∷ 4 ∷ 6 ∷ 7 ∷ 8 ∷ []) ≡ true ∷ true ∷ false ∷ true ∷ true ∷ []
unfolding passes_open
slanting-bends = refl

-- "A heavy lead should be the straight one": a box with three feeds and three lamps. It stands below the first feed and, when pass 2
-- goes by the level below, above the last lamp; were all ratings 1, as in `light`, it would stand in the middle.
abbrev feeds_and_lamps : List ℕ → PlanData
feeds_and_lamps ratings =
    data_of 3 1 10
    (3 ∷ 1 ∷ 3 ∷ [])
    (false ∷ false ∷ false ∷ false ∷ false ∷ false ∷ false ∷ [])
    (1 ∷ 1 ∷ 1 ∷ 1 ∷ 1 ∷ 1 ∷ 1 ∷ [])
    (0 ∷ 1 ∷ 2 ∷ 3 ∷ 3 ∷ 3 ∷ []) (3 ∷ 3 ∷ 3 ∷ 4 ∷ 5 ∷ 6 ∷ [])
    ratings

abbrev pub heavy : PlanData
heavy = feeds_and_lamps (3 ∷ 1 ∷ 1 ∷ 1 ∷ 1 ∷ 3 ∷ [])

pub heavy-drawn : drawing_of heavy ≡ record {
  preliminary = negsuc 5 ∷ pos 0 ∷ pos 6 ∷ pos 0 ∷ negsuc 5 ∷ pos 0 ∷ pos 6 ∷ [];
  final = negsuc 5 ∷ pos 0 ∷ pos 6 ∷ negsuc 5 ∷ negsuc 17 ∷ negsuc 11 ∷ negsuc 5 ∷ [];
  placings =
      place 1 1 (at 0 (negsuc 5) ∷ at 1 (pos 0) ∷ at 2 (pos 6) ∷ []) ∷
      place 1 2 (at 3 (negsuc 5) ∷ []) ∷
      place 1 3 (at 4 (negsuc 17) ∷ at 5 (negsuc 11) ∷ at 6 (negsuc 5) ∷ []) ∷
      place 2 3 (at 4 (negsuc 17) ∷ at 5 (negsuc 11) ∷ at 6 (negsuc 5) ∷ []) ∷
      place 2 2 (at 3 (negsuc 5) ∷ []) ∷
      place 2 1 (at 0 (negsuc 5) ∷ at 1 (pos 0) ∷ at 2 (pos 6) ∷ []) ∷
      [];
}
unfolding passes_open
heavy-drawn = refl

pub heavy-words : words_hold heavy ≡ true
unfolding passes_open tried_open
heavy-words = refl

abbrev pub light : PlanData
light = feeds_and_lamps (1 ∷ 1 ∷ 1 ∷ 1 ∷ 1 ∷ 1 ∷ [])

pub light-final : (drawing_of light).final ≡ negsuc 5 ∷ pos 0 ∷ pos 6 ∷ pos 0 ∷ negsuc 5 ∷ pos 0 ∷ pos 6 ∷ []
unfolding passes_open
light-final = refl
