-- The call place-run: what it takes, refusal 8, and what it gives.
use Rattle.std.specs.Prelude.{◌≡◌, Bool, true, cond, ◌&&◌, List, [], ◌∷◌, ℕ, ◌+◌, ◌-◌, ◌*◌, leb, eqb, length, take, drop, get_or, ℤ, Option, None, Some, Result}
use Rattle.ints.specs.Lists.{sum}
use Rattle.ints.specs.Reach.{reach, all_within}
use Rattle.ints.specs.Ratings.{all_ratings}
use Rattle.ints.specs.Refusals.{Test, check, none_refuses, refused_by}
use Rattle.ints.specs.declared.refusal.Refusal.{Refusal}
use Rattle.run.specs.Run.{Bound, free, at, leads_of, Box, neighbours_in_order}
use Rattle.run.specs.Place.{place_run}
use Rattle.run.specs.Words.{is_possible}

-- A run as the call takes it: r, the bounds, and the lent slices. Document 02, E5: "Place-run takes ratings beside its neighbours".
pub record Request : Type 0 where
  pub boxes : ℕ
  pub left : Option ℤ
  pub right : Option ℤ
  pub old : List ℤ
  pub distances : List ℕ
  pub counts : List ℕ
  pub neighbours : List ℤ
  pub ratings : List ℕ

abbrev pub limit_of : Option ℤ → Bound
limit_of None = free
limit_of (Some x) = at x

-- How many members a side adds, and the positions it hands in: "the value handed in for an absent bound is ignored".
abbrev pub member_of : Option ℤ → ℕ
member_of None = 0
member_of (Some x) = 1

abbrev pub positions_of : Option ℤ → List ℤ
positions_of None = []
positions_of (Some x) = x ∷ []

-- The distance of the left bound to the first box (or to the right bound), and the distances after it.
abbrev pub left_distance : Option ℤ → List ℕ → ℕ
left_distance None ds = 0
left_distance (Some x) ds = get_or ds 0 0

abbrev pub other_distances : Option ℤ → List ℕ → List ℕ
other_distances None ds = ds
other_distances (Some x) ds = drop 1 ds

-- The boxes: each takes as many of the neighbours as its count says, each with its rating, and the next distance.
unfoldable pub boxes_from : List ℤ → List ℕ → List ℕ → List ℤ → List ℕ → List Box
boxes_from [] ds cs ns ws = []
boxes_from (o ∷ os) ds [] ns ws = []
boxes_from (o ∷ os) ds (c ∷ cs) ns ws =
    let near = leads_of (take c ns) (take c ws) in
    record { old = o; near = near; dist = get_or ds 0 0 } ∷ boxes_from os (drop 1 ds) cs (drop c ns) (drop c ws)

abbrev pub boxes_of : Request → List Box
boxes_of q = boxes_from q.old (other_distances q.left q.distances) q.counts q.neighbours q.ratings

-- "over 64 boxes, over 2,048 neighbours in all"
abbrev pub max_boxes : ℕ
max_boxes = 64

abbrev pub max_neighbours : ℕ
max_neighbours = 2048

abbrev pub is_small : Request → Bool
is_small q = leb q.boxes max_boxes && leb (sum q.counts) max_neighbours

-- "a lent slice whose length is not exactly what it must hold (answer, old positions and neighbour counts r each; neighbours
-- the sum of those counts; distances one less than the members, bounds included, 0 if there are none)". Document 02, E5:
-- ratings beside the neighbours, "exactly as many, and another length or one outside 1 to 100 is refused with 8".
abbrev pub is_fitting : Request → List ℤ → Bool
is_fitting q answer =
    eqb (length answer) q.boxes && eqb (length q.old) q.boxes && eqb (length q.counts) q.boxes
    && eqb (length q.neighbours) (sum q.counts) && eqb (length q.ratings) (sum q.counts)
    && eqb (length q.distances) (member_of q.left + q.boxes + member_of q.right - 1)

-- "a position outside ±2^40, a distance outside 1 to 2^41", and a rating "outside 1 to 100"
abbrev pub is_distance : ℕ → Bool
is_distance d = leb 1 d && leb d (2 * reach)

unfoldable pub all_distances : List ℕ → Bool
all_distances [] = true
all_distances (d ∷ ds) = is_distance d && all_distances ds

abbrev pub is_in_reach : Request → Bool
is_in_reach q =
    all_within (positions_of q.left) && all_within (positions_of q.right) && all_within q.old && all_within q.neighbours
    && all_ratings q.ratings && all_distances q.distances

-- "neighbours out of order, or bounds nearer than their distance"
abbrev pub is_sound : Request → Bool
is_sound q =
    neighbours_in_order (boxes_of q)
    && is_possible (limit_of q.left) (left_distance q.left q.distances) (boxes_of q) (limit_of q.right)

-- 8, in the order of document 01's words.
unfoldable pub run_tests : Request → List ℤ → List Test
run_tests q answer = check 8 (is_small q) ∷ check 8 (is_fitting q answer) ∷ check 8 (is_in_reach q) ∷ check 8 (is_sound q) ∷ []

unfoldable pub is_taken : Request → List ℤ → Bool
is_taken q answer = none_refuses (run_tests q answer)

-- Document 01's number, 0 where nothing is refused, and the answer buffer afterwards; refused, the buffer is as it was.
pub record Out : Type 0 where
  pub number : ℕ
  pub buffer : List ℤ

unfoldable pub placed_of : Request → List ℤ
placed_of q = place_run (limit_of q.left) (left_distance q.left q.distances) (boxes_of q) (limit_of q.right)

abbrev pub out : ℕ → List ℤ → Out
out n b = record { number = n; buffer = b }

unfoldable pub call_of : Request → List ℤ → Out
call_of q answer =
    let placed = out 0 (placed_of q) in
    cond (is_taken q answer) placed (out 8 answer)

-- The promise: the answer's number and what the buffer holds at the end are those of o.
pub record Outcome (o : Out) (a : Result Unit Refusal) (b : List ℤ) : Type 0 where
  pub answered : refused_by a ≡ o.number
  pub left : b ≡ o.buffer
