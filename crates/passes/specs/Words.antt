-- The words of demand 3, of a plan and a trace of placings.
use Rattle.std.specs.Prelude.{Bool, true, false, cond, not, ◌&&◌, List, [], ◌∷◌, ◌++◌, map, ℕ, ◌+◌, ◌-◌, ◌*◌, eqb, leb, length, get_or, take, ℤ, pos, ◌-ℤ◌, ◌*ℤ◌}
use Rattle.std.proofs.Math.Option.{Option, none, some}
use Rattle.std.specs.Int.Signed.{le_z}
use Rattle.ints.specs.Ints.{P, gap}
use Rattle.ints.specs.Reach.{all_within}
use Rattle.plan.specs.Plan.{PlanData, vertex_count, is_via, numbers, levels_of, level_of, height_of, Siblings, siblings_of}
use Rattle.plan.specs.Segments.{Segment, Rated, rated_of, above, below, inner_segments}
use Rattle.plan.specs.Strands.{first_or, strand_of}
use Rattle.plan.specs.Checks.{every}
use Rattle.preliminary.specs.Positions.{preliminary}
use Rattle.passes.specs.Runs.{Run, run_at, runs_of, is_bounded, is_open, members, as_list}
use Rattle.passes.specs.State.{Step, position_of, put, doubled}
use Rattle.passes.specs.Ready.{equals, has_no_slack, places}
use Rattle.passes.specs.Drawing.{BoxAt, Placing, Drawing}

-- "The placings start from the preliminary positions, and each meets what those before it left; after the last, positions
-- are final."
abbrev pub run_of : PlanData → Step → Run
run_of p s = run_at p s.level s.ordinal

unfoldable pub replay : PlanData → List Step → List ℤ → List ℤ
replay p [] xs = xs
replay p (s ∷ ss) xs = replay p ss (put (run_of p s).boxes s.positions xs)

-- Where everything stands before the i-th step (from 0), and at the end.
unfoldable pub before : PlanData → List Step → ℕ → List ℤ
before p trace i = replay p (take i trace) (preliminary p)

unfoldable pub finished : PlanData → List Step → List ℤ
finished p trace = replay p trace (preliminary p)

-- "A level keeps its order and distances if, for each vertex with a right sibling, the sibling's final position less its own
-- is at least their doubled distance".
abbrev pub is_apart : PlanData → List ℤ → Siblings → Bool
is_apart p xs s = le_z (pos (doubled p s.left s.right)) (position_of xs s.right -ℤ position_of xs s.left)

unfoldable pub keeps_order : PlanData → List ℤ → Bool
keeps_order p xs = every (is_apart p xs) (siblings_of (levels_of p))

-- "inner segments, via to via; one is upright if both ends have the same final position"
abbrev pub is_upright : List ℤ → Segment → Bool
is_upright xs s = equals (position_of xs s.lower -ℤ position_of xs s.upper) 0

unfoldable pub inner_upright : PlanData → List ℤ → Bool
inner_upright p xs = every (is_upright xs) (inner_segments p)

-- "A cable bends at a via where its segments above and below do not lie on one straight line": those from u down to v and
-- from v down to w, by their sideways lengths, each times the other's height.
abbrev pub rise : PlanData → ℕ → ℕ → ℤ
rise p u v = pos (height_of p (level_of p v)) -ℤ pos (height_of p (level_of p u))

unfoldable pub bends_between : PlanData → List ℤ → ℕ → ℕ → ℕ → Bool
bends_between p xs u v w =
    let upper = (position_of xs v -ℤ position_of xs u) *ℤ rise p v w in
    let lower = (position_of xs w -ℤ position_of xs v) *ℤ rise p u v in
    not (equals (upper -ℤ lower) 0)

unfoldable pub bends_at : PlanData → List ℤ → ℕ → Bool
bends_at p xs v = bends_between p xs (first_or v (above p v)) v (first_or v (below p v))

-- "no cable bends more than twice": of the vias of each strand, how many it bends at.
unfoldable pub bend_count : PlanData → List ℤ → List ℕ → ℕ
bend_count p xs [] = 0
bend_count p xs (v ∷ vs) = cond (bends_at p xs v) 1 0 + bend_count p xs vs

unfoldable pub strand_bends_twice : PlanData → List ℤ → ℕ → Bool
strand_bends_twice p xs v =
    let few = leb (bend_count p xs (strand_of p v)) 2 in
    cond (is_via p v) few true

unfoldable pub bends_at_most_twice : PlanData → List ℤ → Bool
bends_at_most_twice p xs = every (strand_bends_twice p xs) (numbers 0 (vertex_count p))

-- How often a run is placed, "an empty run's placing counts too".
unfoldable pub times_placed : List Step → Run → ℕ
times_placed [] r = 0
times_placed (s ∷ ss) r = cond (places r s) 1 0 + times_placed ss r

-- "Every bounded run .. is placed exactly once, or never if it had no slack; every open run .. exactly twice." Slack is that of
-- the preliminary positions xs.
unfoldable pub times_due : PlanData → List ℤ → Run → ℕ
times_due p xs r =
    let once = cond {A = ℕ} (has_no_slack p xs r) 0 1 in
    cond (is_bounded r) once 2

unfoldable pub placed_as_due : PlanData → List Step → Bool
placed_as_due p trace =
    let xs = preliminary p in
    every (λ r. eqb (times_placed trace r) (times_due p xs r)) (runs_of p)

-- The distances of a run's neighbouring members "at that placing": doubled ones, but "in pass 2 an open run's distances are
-- those it took on in pass 1".
unfoldable pub doubled_between : PlanData → List ℕ → List ℕ
doubled_between p [] = []
doubled_between p (v ∷ []) = []
doubled_between p (v ∷ w ∷ ws) = doubled p v w ∷ doubled_between p (w ∷ ws)

unfoldable pub differences : List ℤ → List ℕ → List ℕ
differences xs [] = []
differences xs (v ∷ []) = []
differences xs (v ∷ w ∷ ws) = P (position_of xs w -ℤ position_of xs v) ∷ differences xs (w ∷ ws)

-- The steps up to and with that of run r in pass 1.
unfoldable pub through_first : Run → List Step → List Step
through_first r [] = []
through_first r (s ∷ ss) =
    let more = through_first r ss in
    let rest = cond (eqb s.pass 1 && places r s) [] more in
    s ∷ rest

unfoldable pub distances_then : PlanData → List Step → Step → List ℕ
distances_then p trace s =
    let r = run_of p s in
    let took_on = differences (replay p (through_first r trace) (preliminary p)) (members r) in
    cond (is_open r && eqb s.pass 2) took_on (doubled_between p (members r))

-- "A placement of a run gives each of its boxes a whole number of half steps, so that each two neighbouring members, bounds
-- included, stand in their order and at least as far apart as their distance at that placing".
unfoldable pub far_apart : List ℕ → List ℤ → Bool
far_apart ds [] = true
far_apart ds (x ∷ []) = true
far_apart [] (x ∷ y ∷ ys) = false
far_apart (d ∷ ds) (x ∷ y ∷ ys) =
    let more = far_apart ds (y ∷ ys) in
    cond (le_z (pos d) (y -ℤ x)) more false

abbrev pub no_step : Step
no_step = record { pass = 0; level = 0; ordinal = 0; positions = [] }

abbrev pub step_at : List Step → ℕ → Step
step_at trace i = get_or trace i no_step

-- Whether ys is a placement of the run that the i-th step places.
unfoldable pub is_placement_then : PlanData → List Step → ℕ → List ℤ → Bool
is_placement_then p trace i ys =
    let s = step_at trace i in
    let r = run_of p s in
    let xs = before p trace i in
    let standing = map (position_of xs) (as_list r.left) ++ ys ++ map (position_of xs) (as_list r.right) in
    let spaced = far_apart (distances_then p trace s) standing in
    eqb (length ys) (length r.boxes) && spaced

-- "Sideways length is summed over all segments between the run's boxes and the preceding level of that pass", each counted with its
-- rating (document 02, E5): the boxes vs stand at ys, all else at xs.
unfoldable pub place_of : List ℕ → List ℤ → ℕ → Option ℤ
place_of [] ys v = none
place_of (w ∷ ws) [] v = none
place_of (w ∷ ws) (y ∷ ys) v =
    let more = place_of ws ys v in
    cond (eqb w v) (some y) more

abbrev pub far_from : ℤ → Option ℤ → ℕ
far_from x none = 0
far_from x (some y) = gap y x

unfoldable pub sideways_from : List ℕ → List ℤ → List ℤ → ℕ → ℕ → ℕ
sideways_from vs ys xs box neighbour = far_from (position_of xs neighbour) (place_of vs ys box)

unfoldable pub sideways_sum : ℕ → List ℕ → List ℤ → List ℤ → List Rated → ℕ
sideways_sum q vs ys xs [] = 0
sideways_sum q vs ys xs (r ∷ rs) =
    let down = sideways_from vs ys xs r.segment.upper r.segment.lower in
    let up = sideways_from vs ys xs r.segment.lower r.segment.upper in
    r.rating * cond (eqb q 2) down up + sideways_sum q vs ys xs rs

unfoldable pub sideways_then : PlanData → Step → List ℤ → List ℤ → ℕ
sideways_then p s xs ys = sideways_sum s.pass (run_of p s).boxes ys xs (rated_of p)

-- All boxes in a list of placings.
unfoldable pub boxes_listed : List Placing → List BoxAt
boxes_listed [] = []
boxes_listed (q ∷ qs) = q.boxes ++ boxes_listed qs

-- A drawing's positions, listed ones too, and "more than 2,048 placings or boxes in the placings".
abbrev pub max_listed : ℕ
max_listed = 2048

unfoldable pub drawing_within : Drawing → Bool
drawing_within d =
    let boxes = boxes_listed d.placings in
    all_within d.preliminary && all_within d.final && all_within (map (λ b. b.position) boxes)
    && leb (length d.placings) max_listed && leb (length boxes) max_listed
