-- Document 01's cases 1 to 9 and its edges, cases 1 and 3 as document 02's E4 has them, and edges of E5's ratings, as statements about
-- the definitions.
use Rattle.std.specs.Prelude.{◌≡◌, Bool, true, false, List, [], ◌∷◌, ◌++◌, map, ℕ, zero, suc, ℤ, pos, negsuc}
use Prim.Native.String.{String}
use Rattle.run.specs.Run.{free, at, Lead, Box}
use Rattle.run.specs.Place.{place_run}
use Rattle.text.specs.Bytes.{bytes}
use Rattle.text.specs.Reading.{Reading, accepted, refused, reading}
use Rattle.report.specs.Printed.{printed}

-- "in cases 3 to 7 all are 1"
abbrev pub unrated : ℤ → Lead
unrated x = record { at = x; rating = 1 }

abbrev pub box : ℤ → List ℤ → ℕ → Box
box o ns d = record { old = o; near = map unrated ns; dist = d }

abbrev pub is_accepted : Reading → Bool
is_accepted (accepted p) = true
is_accepted (refused n) = false

-- A plan of one level with n boxes.
unfoldable pub boxes : ℕ → List ℕ
boxes zero = []
boxes (suc n) = bytes " (box 1)" ++ boxes n

abbrev pub level : ℕ → List ℕ
level n = bytes "(plan 1 1 1)\n(level" ++ boxes n ++ bytes ")\n(end)\n"

-- Two boxes joined by a segment with this rating.
abbrev pub rated : String → List ℕ
rated w = bytes "(plan 2 1 1)\n(level (box 1))\n(level (box 1))\n(seg 0 1 " ++ bytes w ++ bytes ")\n(end)\n"

pub record Cases : Type 0 where
  pub case1 :
      printed (bytes "(plan 3 2 10)\n(level (box 3) (box 3))\n(level (via) (box 3))\n(level (box 3))\n(seg 0 2)\n(seg 1 3)\n(seg 2 4)\n(seg 3 4)\n(end)\n")
      ≡ bytes "(drawing 5 6)\n(at 0 -8 -5 0)\n(at 1 8 11 0)\n(at 2 -5 -5 10)\n(at 3 5 8 10)\n(at 4 0 1 20)\n(place 1 1 (0 -8) (1 8))\n(place 1 2 (3 8))\n(place 1 3 (4 1))\n(place 2 3 (4 1))\n(place 2 2 (3 8))\n(place 2 1 (0 -5) (1 11))\n(end)\n"
  pub case2 :
      printed (bytes "(plan 1 1 1)\n(level (box 1))\n(end)\n")
      ≡ bytes "(drawing 1 2)\n(at 0 0 0 0)\n(place 1 1 (0 0))\n(place 2 1 (0 0))\n(end)\n"
  pub case3 : place_run free 0 (box (pos 0) (pos 4 ∷ pos 10 ∷ []) 0 ∷ []) free ≡ pos 7 ∷ []
  pub case4 : place_run free 0 (box (pos 0) (pos 4 ∷ pos 10 ∷ pos 11 ∷ []) 0 ∷ []) free ≡ pos 10 ∷ []
  pub case5 : place_run free 0 (box (pos 7) [] 0 ∷ []) free ≡ pos 7 ∷ []
  pub case6 : place_run (at (pos 0)) 6 (box (pos 0) (pos 2 ∷ []) 0 ∷ []) free ≡ pos 6 ∷ []
  pub case7 :
      place_run free 0 (box (pos 0) (pos 0 ∷ pos 0 ∷ pos 0 ∷ []) 10 ∷ box (pos 0) (pos 0 ∷ []) 10 ∷ box (pos 0) (pos 12 ∷ pos 12 ∷ pos 12 ∷ []) 10 ∷ box (pos 100) [] 0 ∷ []) free
      ≡ negsuc 7 ∷ pos 2 ∷ pos 12 ∷ pos 100 ∷ []
  pub case8 : reading (bytes "(plan 2 1 1)\n(level (via))\n(level (box 1))\n(seg 0 1)\n(end)\n") ≡ refused 5
  pub case9 : reading (bytes "(plan 2 1 1)\n(level (box 1))\n(level (box 1))\n(seg 0 1)\n(seg 0 1)\n(end)\n") ≡ refused 4
  -- "G 100 accepted, 101 refused 2"
  pub gap100 : is_accepted (reading (bytes "(plan 1 100 1)\n(level (box 1))\n(end)\n")) ≡ true
  pub gap101 : reading (bytes "(plan 1 101 1)\n(level (box 1))\n(end)\n") ≡ refused 2
  -- "64 boxes on a level accepted, 65 refused 2"
  pub boxes64 : is_accepted (reading (level 64)) ≡ true
  pub boxes65 : reading (level 65) ≡ refused 2
  -- "W from 2 to 100", "never written" if it is 1: "Outside the range check 2 applies."
  pub rating2 : is_accepted (reading (rated "2")) ≡ true
  pub rating100 : is_accepted (reading (rated "100")) ≡ true
  pub rating101 : reading (rated "101") ≡ refused 2
  pub rating1 : reading (rated "1") ≡ refused 2
  pub rating0 : reading (rated "0") ≡ refused 2
  -- A heavy lead is the straight one: box 2, below 0 and 1, stands below 0, not between them.
  pub heavy-lead :
      printed (bytes "(plan 2 1 1)\n(level (box 1) (box 1))\n(level (box 1))\n(seg 0 2 2)\n(seg 1 2)\n(end)\n")
      ≡ bytes "(drawing 3 4)\n(at 0 -3 -3 0)\n(at 1 3 3 0)\n(at 2 0 -3 1)\n(place 1 1 (0 -3) (1 3))\n(place 1 2 (2 -3))\n(place 2 2 (2 -3))\n(place 2 1 (0 -3) (1 3))\n(end)\n"
  -- "a crossing at a box's end of a cable accepted, between vias refused 6"
  pub outer-crossing :
      is_accepted (reading (bytes "(plan 3 1 1)\n(level (box 1) (box 1))\n(level (via) (via))\n(level (box 1) (box 1))\n(seg 0 3)\n(seg 1 2)\n(seg 2 4)\n(seg 3 5)\n(end)\n"))
      ≡ true
  pub inner-crossing :
      reading (bytes "(plan 4 1 1)\n(level (box 1) (box 1))\n(level (via) (via))\n(level (via) (via))\n(level (box 1) (box 1))\n(seg 0 2)\n(seg 1 3)\n(seg 2 5)\n(seg 3 4)\n(seg 4 6)\n(seg 5 7)\n(end)\n")
      ≡ refused 6
