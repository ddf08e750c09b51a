-- A run, as document 01 hands it to "Placing one run": boxes from left to right, with an optional bound on either side.
-- All positions are whole half steps.
use Rattle.std.specs.Prelude.{Bool, true, cond, ◌&&◌, List, [], ◌∷◌, map, ℕ, ◌+◌, ◌*◌, ◌/◌, leb, ℤ, pos, negsuc, ◌+ℤ◌, ◌-ℤ◌}
use Rattle.std.specs.Int.Signed.{le_z}
use Rattle.ints.specs.Ints.{min_z, max_z}

-- "an optional bound on either side"
pub data Bound : Type 0 where
  free : Bound
  at : ℤ → Bound

-- A neighbour: where it stands, and the rating of the segment to it (document 02, E5: "A segment may carry a rating").
pub record Lead : Type 0 where
  pub at : ℤ
  pub rating : ℕ

abbrev pub lead_positions : List Lead → List ℤ
lead_positions ns = map (λ n. n.at) ns

-- Positions and ratings side by side, as long as the shorter: "Place-run takes ratings beside its neighbours".
unfoldable pub leads_of : List ℤ → List ℕ → List Lead
leads_of [] ws = []
leads_of (x ∷ xs) [] = []
leads_of (x ∷ xs) (w ∷ ws) = record { at = x; rating = w } ∷ leads_of xs ws

-- "the total of all s"
unfoldable pub total_rating : List Lead → ℕ
total_rating [] = 0
total_rating (n ∷ ns) = n.rating + total_rating ns

-- A box of a run: its old position, its neighbours in nondecreasing order of their positions, and its distance to the next
-- member on its right, a box or the right bound (of no account where nothing follows).
pub record Box : Type 0 where
  pub old : ℤ
  pub near : List Lead
  pub dist : ℕ

-- "in nondecreasing order"
unfoldable pub nondecreasing : List ℤ → Bool
nondecreasing [] = true
nondecreasing (x ∷ []) = true
nondecreasing (x ∷ y ∷ xs) = le_z x y && nondecreasing (y ∷ xs)

unfoldable pub neighbours_in_order : List Box → Bool
neighbours_in_order [] = true
neighbours_in_order (b ∷ bs) = nondecreasing (lead_positions b.near) && neighbours_in_order bs

-- "The distance of two non-adjacent members is the sum between them": of the first of these boxes and the member after the last.
unfoldable pub span : List Box → ℕ
span [] = 0
span (b ∷ bs) = b.dist + span bs

-- "the first at which twice the ratings so far reach" t: a are the ratings before these neighbours; the old position if there is none.
unfoldable pub first_reaching : ℕ → ℕ → ℤ → List Lead → ℤ
first_reaching t a old [] = old
first_reaching t a old (n ∷ ns) =
    let so_far = a + n.rating in
    let later = first_reaching t so_far old ns in
    cond (leb t (2 * so_far)) n.at later

-- "The lower middle neighbour is the first at which twice the ratings so far reach the total of all s. The upper middle is the first
-- at which twice the ratings so far exceed it", that is, reach one more. If s = 0, the old position stands for both.
abbrev pub lower_middle : ℤ → List Lead → ℤ
lower_middle old near = first_reaching (total_rating near) 0 old near

abbrev pub upper_middle : ℤ → List Lead → ℤ
upper_middle old near = first_reaching (total_rating near + 1) 0 old near

-- "divided by 2, rounded toward minus infinity"
abbrev pub half_down : ℤ → ℤ
half_down (pos n) = pos (n / 2)
half_down (negsuc n) = negsuc (n / 2)

-- Where a lone box starts (document 02, E5): "A lone box with s above 0 starts at half their sum, rounded as E4 says, before its bounds
-- apply", and at "the old position if s = 0", as document 01 has it.
unfoldable pub start_of : ℤ → List Lead → ℤ
start_of old near = half_down (lower_middle old near +ℤ upper_middle old near)

-- "raise it to left bound plus distance"
abbrev pub raise : Bound → ℕ → ℤ → ℤ
raise free d x = x
raise (at l) d x = max_z x (l +ℤ pos d)

-- "lower it to right bound less distance"
abbrev pub lower : Bound → ℕ → ℤ → ℤ
lower free d x = x
lower (at r) d x = min_z x (r -ℤ pos d)

-- The first and the last of some positions, and the distance from the last of some boxes to the member after it.
unfoldable pub first_of : List ℤ → ℤ
first_of [] = pos 0
first_of (x ∷ xs) = x

unfoldable pub last_of : List ℤ → ℤ
last_of [] = pos 0
last_of (x ∷ []) = x
last_of (x ∷ y ∷ xs) = last_of (y ∷ xs)

unfoldable pub last_dist : List Box → ℕ
last_dist [] = 0
last_dist (b ∷ []) = b.dist
last_dist (b ∷ c ∷ bs) = last_dist (c ∷ bs)
