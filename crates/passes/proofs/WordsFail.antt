-- The words of demand 3 where they fail: each case tells a wrong drawing, trace or placement from a right one.
use mathlib.Core.Path.{◌≡◌, refl}
use mathlib.Core.Bool.{true, false}
use mathlib.Core.List.{List, [], ◌∷◌, map, ◌++◌}
use Prim.Native.Nat.{ℕ, ◌-◌}
use lib.ListN.{length, take, drop, replicate}
use lib.IntN.{ℤ, pos, negsuc}
use Rattle.plan.proofs.Case1.{case1}
use Rattle.passes.specs.Drawing.{Placing, Drawing, trace_of}
use Rattle.passes.specs.Words.{before, keeps_order, inner_upright, bends_at_most_twice, placed_as_due, step_at, is_placement_then, sideways_then, drawing_within}
use Rattle.passes.proofs.Open.{passes_open}
use Rattle.passes.proofs.Cases.{settled, third-pass, heavy, light}

-- Case 1's steps, from 0: in pass 1 the boxes of level 1, the empty run of level 2, its box 3, the box of level 3; in pass 2 those
-- of level 3, of level 2 and of level 1.

-- Boxes 0 and 1, then via 2 and box 3, stand one half step nearer than their doubled distance.
pub order-fails :
    map (keeps_order case1)
    ((negsuc 4 ∷ pos 10 ∷ negsuc 4 ∷ pos 8 ∷ negsuc 4 ∷ []) ∷ (negsuc 4 ∷ pos 11 ∷ negsuc 4 ∷ pos 4 ∷ negsuc 4 ∷ []) ∷ [])
    ≡ false ∷ false ∷ []
unfolding passes_open
order-fails = refl

-- The middle via, 5, of a strand of three stands one half step to the right.
pub upright-fails :
    inner_upright settled
    (negsuc 19 ∷ pos 20 ∷ negsuc 19 ∷ pos 0 ∷ pos 20 ∷ negsuc 18 ∷ pos 0 ∷ pos 20 ∷ negsuc 19 ∷ pos 20 ∷ negsuc 19 ∷ pos 20 ∷ [])
    ≡ false
unfolding passes_open
upright-fails = refl

-- The cable by way of vias 2, 5 and 8 zigzags: it bends at each of them.
pub bends-fail :
    bends_at_most_twice settled
    (negsuc 19 ∷ pos 20 ∷ negsuc 18 ∷ pos 0 ∷ pos 20 ∷ negsuc 19 ∷ pos 0 ∷ pos 20 ∷ negsuc 18 ∷ pos 20 ∷ negsuc 19 ∷ pos 20 ∷ [])
    ≡ false
unfolding passes_open
bends-fail = refl

-- A placing too few, the first or the last, and one too many.
pub counts-fail-without-first : placed_as_due third-pass (drop 1 (trace_of third-pass)) ≡ false
unfolding passes_open
counts-fail-without-first = refl

pub counts-fail-without-last : placed_as_due third-pass (take (length (trace_of third-pass) - 1) (trace_of third-pass)) ≡ false
unfolding passes_open
counts-fail-without-last = refl

pub counts-fail-with-last-again :
    placed_as_due third-pass (trace_of third-pass ++ (step_at (trace_of third-pass) (length (trace_of third-pass) - 1) ∷ [])) ≡ false
unfolding passes_open
counts-fail-with-last-again = refl

-- Pass 1, box 3: no placement is nearer to its left bound, at −5, than 10.
pub placement-fails-near-bound :
    map (λ (x : ℤ). is_placement_then case1 (trace_of case1) 2 (x ∷ [])) (pos 4 ∷ pos 5 ∷ pos 8 ∷ pos 1000 ∷ [])
    ≡ false ∷ true ∷ true ∷ true ∷ []
unfolding passes_open
placement-fails-near-bound = refl

-- Pass 2, box 3: it took on the distance 13 from its bound.
pub placement-fails-nearer-than-taken-on :
    map (λ (x : ℤ). is_placement_then case1 (trace_of case1) 6 (x ∷ [])) (pos 5 ∷ pos 7 ∷ pos 8 ∷ pos 9 ∷ [])
    ≡ false ∷ false ∷ true ∷ true ∷ []
unfolding passes_open
placement-fails-nearer-than-taken-on = refl

-- A position too few and one too many.
pub placement-fails-of-other-length :
    map (is_placement_then case1 (trace_of case1) 2) ([] ∷ (pos 8 ∷ pos 30 ∷ []) ∷ []) ≡ false ∷ false ∷ []
unfolding passes_open
placement-fails-of-other-length = refl

-- Pass 1, box 3 below box 1, which stands at 8: its preliminary position 5 is 3 dearer than the best.
pub sideways-in-pass-1 :
    map (λ (x : ℤ). sideways_then case1 (step_at (trace_of case1) 2) (before case1 (trace_of case1) 2) (x ∷ []))
    (pos 5 ∷ pos 8 ∷ pos 9 ∷ [])
    ≡ 3 ∷ 0 ∷ 1 ∷ []
unfolding passes_open
sideways-in-pass-1 = refl

-- Pass 2, level 1: the preliminary positions and the final ones cost the same against level 2, wider apart the boxes cost more.
pub sideways-in-pass-2 :
    map (sideways_then case1 (step_at (trace_of case1) 7) (before case1 (trace_of case1) 7))
    ((negsuc 7 ∷ pos 8 ∷ []) ∷ (negsuc 4 ∷ pos 11 ∷ []) ∷ (negsuc 8 ∷ pos 9 ∷ []) ∷ [])
    ≡ 3 ∷ 3 ∷ 5 ∷ []
unfolding passes_open
sideways-in-pass-2 = refl

-- Pass 1, box 3 below three feeds, which stand at −6, 0 and 6: with the first of rating 3 it is least at −6; with all of rating 1 at 0,
-- which is 6 dearer than the best.
pub sideways-rated :
    map (λ (x : ℤ). sideways_then heavy (step_at (trace_of heavy) 1) (before heavy (trace_of heavy) 1) (x ∷ []))
    (negsuc 6 ∷ negsuc 5 ∷ negsuc 4 ∷ pos 0 ∷ [])
    ≡ 23 ∷ 18 ∷ 19 ∷ 24 ∷ []
unfolding passes_open
sideways-rated = refl

pub sideways-unrated :
    map (λ (x : ℤ). sideways_then light (step_at (trace_of light) 1) (before light (trace_of light) 1) (x ∷ []))
    (negsuc 6 ∷ negsuc 5 ∷ negsuc 4 ∷ pos 0 ∷ [])
    ≡ 21 ∷ 18 ∷ 17 ∷ 12 ∷ []
unfolding passes_open
sideways-unrated = refl

-- Positions go up to 2^40, the list up to 2,048 placings and 2,048 boxes in them; one more fails, wherever it stands.
abbrev placings_at : ℤ → ℕ → ℕ → List Placing
placings_at x n m = replicate n (record { pass = 1; level = 1; boxes = replicate m (record { vertex = 0; position = x }) })

abbrev drawn : ℤ → ℤ → List Placing → Drawing
drawn x y ps = record { preliminary = x ∷ []; final = y ∷ []; placings = ps }

abbrev far : ℤ
far = pos 1099511627776

abbrev far_left : ℤ
far_left = negsuc 1099511627775

pub within-at-limits :
    map drawing_within (drawn far far_left (placings_at far 2048 1) ∷ drawn far_left far (placings_at far_left 1 2048) ∷ [])
    ≡ true ∷ true ∷ []
unfolding passes_open
within-at-limits = refl

pub within-fails :
    map drawing_within
    (drawn (pos 1099511627777) far [] ∷ drawn far (negsuc 1099511627776) [] ∷ drawn far far (placings_at (pos 1099511627777) 1 1)
    ∷ drawn far far (placings_at far 2049 0) ∷ drawn far far (placings_at far 1 2049) ∷ [])
    ≡ false ∷ false ∷ false ∷ false ∷ false ∷ []
unfolding passes_open
within-fails = refl
