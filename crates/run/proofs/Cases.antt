-- Document 01's cases 3 to 7, case 3 as document 02 has it, all ratings 1; two boxes of equal resistance, lone boxes with an even number
-- of neighbours, and neighbours with ratings: computed from the definition.
use mathlib.Core.Path.{◌≡◌, refl}
use mathlib.Core.List.{List, [], ◌∷◌, map}
use Prim.Native.Nat.{ℕ}
use lib.IntN.{ℤ, pos, negsuc}
use Rattle.ints.specs.Ints.{gap}
use Rattle.run.specs.Run.{free, at, Lead, leads_of, total_rating, Box, nondecreasing, neighbours_in_order, span, first_reaching, start_of, first_of, last_of, last_dist}
use Rattle.run.specs.Join.{push_left, push_right, longer, lengthening, join}
use Rattle.run.specs.Place.{place_boxes, place_run}
use Rattle.run.specs.Words.{is_placement, sideways, sideways_length}
use Rattle.run.proofs.Unrated.{unrated}

-- Named on an `unfolding` line, it opens every definition of this floor.
unfoldable pub run_open : Unit {0}
unfolding gap leads_of total_rating nondecreasing neighbours_in_order span first_reaching start_of first_of last_of last_dist push_left push_right longer lengthening join place_boxes place_run is_placement sideways sideways_length
run_open = tt

-- A box whose neighbours all have rating 1, and one with neighbours of any rating.
abbrev box : ℤ → List ℤ → ℕ → Box
box o ns d = record { old = o; near = map unrated ns; dist = d }

abbrev rated_box : ℤ → List Lead → ℕ → Box
rated_box o ns d = record { old = o; near = ns; dist = d }

abbrev lead : ℤ → ℕ → Lead
lead x w = record { at = x; rating = w }

pub case3 : place_run free 0 (box (pos 0) (pos 4 ∷ pos 10 ∷ []) 0 ∷ []) free ≡ pos 7 ∷ []
unfolding run_open
case3 = refl

pub case4 : place_run free 0 (box (pos 0) (pos 4 ∷ pos 10 ∷ pos 11 ∷ []) 0 ∷ []) free ≡ pos 10 ∷ []
unfolding run_open
case4 = refl

pub case5 : place_run free 0 (box (pos 7) [] 0 ∷ []) free ≡ pos 7 ∷ []
unfolding run_open
case5 = refl

pub case6 : place_run (at (pos 0)) 6 (box (pos 0) (pos 2 ∷ []) 0 ∷ []) free ≡ pos 6 ∷ []
unfolding run_open
case6 = refl

pub case7 : place_run free 0 (box (pos 0) (pos 0 ∷ pos 0 ∷ pos 0 ∷ []) 10 ∷ box (pos 0) (pos 0 ∷ []) 10 ∷ box (pos 0) (pos 12 ∷ pos 12 ∷ pos 12 ∷ []) 10 ∷ box (pos 100) [] 0 ∷ []) free
    ≡ negsuc 7 ∷ pos 2 ∷ pos 12 ∷ pos 100 ∷ []
unfolding run_open
case7 = refl

-- Equal resistance: the right box moves.
pub tie : place_run free 0 (box (pos 0) (negsuc 4 ∷ []) 16 ∷ box (pos 0) (pos 8 ∷ []) 0 ∷ []) free ≡ negsuc 4 ∷ pos 11 ∷ []
unfolding run_open
tie = refl

-- All boxes of a half that move count, not the one beside the cut alone: that would give −8, 2, 12, 100.
pub half : place_run free 0 (box (pos 0) (pos 0 ∷ pos 0 ∷ pos 0 ∷ []) 10 ∷ box (pos 0) (pos 0 ∷ []) 10 ∷ box (pos 0) (pos 12 ∷ []) 10 ∷ box (pos 100) [] 0 ∷ []) free
    ≡ pos 0 ∷ pos 10 ∷ pos 20 ∷ pos 100 ∷ []
unfolding run_open
half = refl

-- ---- between two feeds: half an odd sum is rounded toward minus infinity, whatever its sign
pub odd-sum : place_run free 0 (box (pos 0) (pos 4 ∷ pos 9 ∷ []) 0 ∷ []) free ≡ pos 6 ∷ []
unfolding run_open
odd-sum = refl

pub negative-sum : place_run free 0 (box (pos 0) (negsuc 4 ∷ pos 2 ∷ []) 0 ∷ []) free ≡ negsuc 1 ∷ []
unfolding run_open
negative-sum = refl

-- of four the second and the third count: −9 and −4
pub middle-two : place_run free 0 (box (pos 0) (negsuc 99 ∷ negsuc 8 ∷ negsuc 3 ∷ pos 50 ∷ []) 0 ∷ []) free ≡ negsuc 6 ∷ []
unfolding run_open
middle-two = refl

-- the bounds apply after: were 4 raised to 6 before, it would be 8
pub then-bounds : place_run (at (pos 0)) 6 (box (pos 0) (pos 4 ∷ pos 10 ∷ []) 0 ∷ []) free ≡ pos 7 ∷ []
unfolding run_open
then-bounds = refl

-- each box of a run starts so, "also one that is a half"
pub each-half : place_run free 0 (box (pos 0) (negsuc 4 ∷ pos 2 ∷ []) 8 ∷ box (pos 0) (pos 4 ∷ pos 9 ∷ []) 0 ∷ []) free ≡ negsuc 1 ∷ pos 6 ∷ []
unfolding run_open
each-half = refl

-- ---- ratings: "A heavy lead should be the straight one", where without ratings the middle one would be
pub heavy : place_run free 0 (rated_box (pos 0) (lead (pos 0) 1 ∷ lead (pos 8) 1 ∷ lead (pos 20) 3 ∷ []) 0 ∷ []) free ≡ pos 20 ∷ []
unfolding run_open
heavy = refl

pub not-heavy : place_run free 0 (box (pos 0) (pos 0 ∷ pos 8 ∷ pos 20 ∷ []) 0 ∷ []) free ≡ pos 8 ∷ []
unfolding run_open
not-heavy = refl

-- the optimum differs: of these sideways lengths 20 is the place of the least, without ratings 8 is
pub heavy-at-20 : sideways_length (rated_box (pos 0) (lead (pos 0) 1 ∷ lead (pos 8) 1 ∷ lead (pos 20) 3 ∷ []) 0 ∷ []) (pos 20 ∷ []) ≡ 32
unfolding run_open
heavy-at-20 = refl

pub heavy-at-8 : sideways_length (rated_box (pos 0) (lead (pos 0) 1 ∷ lead (pos 8) 1 ∷ lead (pos 20) 3 ∷ []) 0 ∷ []) (pos 8 ∷ []) ≡ 44
unfolding run_open
heavy-at-8 = refl

-- twice the ratings 1, 1, 2 so far reach their total at the second neighbour, −6, and exceed it at the third, 1
pub half-rated : place_run free 0 (rated_box (pos 0) (lead (negsuc 9) 1 ∷ lead (negsuc 5) 1 ∷ lead (pos 1) 2 ∷ []) 0 ∷ []) free ≡ negsuc 2 ∷ []
unfolding run_open
half-rated = refl

-- "Resistance counts each segment with its rating": the left box moves, whose lead is the lighter; with equal ratings it is `tie`
pub lighter : place_run free 0 (rated_box (pos 0) (lead (negsuc 4) 1 ∷ []) 16 ∷ rated_box (pos 0) (lead (pos 8) 2 ∷ []) 0 ∷ []) free ≡ negsuc 7 ∷ pos 8 ∷ []
unfolding run_open
lighter = refl

-- case 7 with one lead of rating 3 for three of rating 1
pub one-for-three : place_run free 0
    (rated_box (pos 0) (lead (pos 0) 3 ∷ []) 10 ∷ rated_box (pos 0) (lead (pos 0) 1 ∷ []) 10 ∷ rated_box (pos 0) (lead (pos 12) 3 ∷ []) 10 ∷ box (pos 100) [] 0 ∷ []) free
    ≡ negsuc 7 ∷ pos 2 ∷ pos 12 ∷ pos 100 ∷ []
unfolding run_open
one-for-three = refl
