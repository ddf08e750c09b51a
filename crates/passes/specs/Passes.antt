-- The three passes.
use Rattle.std.specs.Prelude.{Bool, cond, not, ◌&&◌, ◌||◌, List, [], ◌∷◌, ◌++◌, map, reverse, ℕ, eqb, get_or, ℤ}
use Rattle.std.proofs.Math.Option.{Option, none, some}
use Rattle.run.specs.Run.{Bound, free, at, Box, leads_of}
use Rattle.run.specs.Place.{place_run}
use Rattle.plan.specs.Plan.{PlanData, numbers}
use Rattle.passes.specs.Runs.{Run, is_bounded, is_open, members, runs_on}
use Rattle.passes.specs.State.{State, position_of, put, take_on}
use Rattle.passes.specs.Ready.{preceding, preceding_ratings, is_settled, is_ready}

-- A run as "Placing one run" takes it: its bounds, and each box with its old position, its neighbours on the preceding level
-- of pass q, each with the rating of the segment to it, and the distance in force to the member on its right.
abbrev pub bound_at : List ℤ → Option ℕ → Bound
bound_at xs none = free
bound_at xs (some v) = at (position_of xs v)

abbrev pub distance_from : List ℕ → Option ℕ → ℕ
distance_from ds none = 0
distance_from ds (some v) = get_or ds v 0

unfoldable pub boxes_at : PlanData → ℕ → State → List ℕ → List Box
boxes_at p q s [] = []
boxes_at p q s (v ∷ vs) =
    record {
      old = position_of s.at v;
      near = leads_of (map (position_of s.at) (preceding p q v)) (preceding_ratings p q v);
      dist = get_or s.apart v 0;
    } ∷ boxes_at p q s vs

unfoldable pub placed : PlanData → ℕ → State → Run → List ℤ
placed p q s r =
    place_run (bound_at s.at r.left) (distance_from s.apart r.left) (boxes_at p q s r.boxes) (bound_at s.at r.right)

-- Run r is placed in pass q at ys; an open run takes on its distances.
unfoldable pub after : ℕ → Run → List ℤ → State → State
after q r ys s =
    let xs = put r.boxes ys s.at in
    let taken = take_on xs (members r) s.apart in
    record {
      at = xs;
      apart = cond (is_open r) taken s.apart;
      trace = s.trace ++ (record { pass = q; level = r.level; ordinal = r.ordinal; positions = ys } ∷ []);
    }

-- Whether pass q places run r: "Every open run is placed"; "A bounded run is placed if unsettled and ready"; "Pass 3 ..
-- places every bounded run still unsettled, ready or not".
unfoldable pub is_due : PlanData → ℕ → State → Run → Bool
is_due p q s r =
    let third = eqb q 3 in
    let ready = third || is_ready p q s r in
    let unsettled = not (is_settled p s r) in
    let bounded = unsettled && ready in
    cond (is_bounded r) bounded (not third)

unfoldable pub visit : PlanData → ℕ → Run → State → State
visit p q r s =
    let next = after q r (placed p q s r) s in
    cond (is_due p q s r) next s

-- "Runs go left to right".
unfoldable pub visit_each : PlanData → ℕ → List Run → State → State
visit_each p q [] s = s
visit_each p q (r ∷ rs) s = visit_each p q rs (visit p q r s)

unfoldable pub pass : PlanData → ℕ → List ℕ → State → State
pass p q [] s = s
pass p q (l ∷ ls) s = pass p q ls (visit_each p q (runs_on p l) s)

-- "Pass 1 goes down ..; pass 2 goes up ..; Pass 3 goes down".
unfoldable pub three_passes : PlanData → State → State
three_passes p s =
    let down = numbers 1 p.levels in
    pass p 3 down (pass p 2 (reverse down) (pass p 1 down s))
