-- Settled and ready.
use Rattle.std.specs.Prelude.{Bool, true, false, cond, ◌&&◌, ◌||◌, List, [], ◌∷◌, ℕ, ◌+◌, eqb, leb, ℤ, pos, negsuc, ◌-ℤ◌}
use Rattle.std.proofs.Math.Option.{Option, none, some}
use Rattle.plan.specs.Plan.{PlanData, is_via, level_of, level_at}
use Rattle.plan.specs.Segments.{above, below, rated_of, ratings_above, ratings_below}
use Rattle.plan.specs.Checks.{every, any}
use Rattle.passes.specs.Runs.{Run, members, runs_on}
use Rattle.passes.specs.State.{Step, State, position_of, doubled}

-- The doubled distance of the first and the last of these members: "the sum between them".
unfoldable pub doubled_span : PlanData → List ℕ → ℕ
doubled_span p [] = 0
doubled_span p (v ∷ []) = 0
doubled_span p (v ∷ w ∷ ws) = doubled p v w + doubled_span p (w ∷ ws)

abbrev pub equals : ℤ → ℕ → Bool
equals (pos m) n = eqb m n
equals (negsuc m) n = false

-- "its vias are exactly the distance apart (it has no slack)"; v and w are its vias, d their distance.
abbrev pub exactly_apart : List ℤ → ℕ → Option ℕ → Option ℕ → Bool
exactly_apart xs d none w = false
exactly_apart xs d (some v) none = false
exactly_apart xs d (some v) (some w) = equals (position_of xs w -ℤ position_of xs v) d

unfoldable pub has_no_slack : PlanData → List ℤ → Run → Bool
has_no_slack p xs r = exactly_apart xs (doubled_span p (members r)) r.left r.right

-- Whether a step places run r.
abbrev pub places : Run → Step → Bool
places r s = eqb s.level r.level && eqb s.ordinal r.ordinal

-- "A bounded run is settled if its vias are exactly the distance apart .., or once placed."
unfoldable pub is_settled : PlanData → State → Run → Bool
is_settled p s r = has_no_slack p s.at r || any (places r) s.trace

-- A vertex's neighbours "on the preceding level" of pass q: the level below in pass 2, else the one above.
unfoldable pub preceding : PlanData → ℕ → ℕ → List ℕ
preceding p q v =
    let under = below p v in
    let over = above p v in
    cond (eqb q 2) under over

-- The ratings of the segments to them, in their order.
unfoldable pub preceding_ratings : PlanData → ℕ → ℕ → List ℕ
preceding_ratings p q v =
    let under = ratings_below (rated_of p) v in
    let over = ratings_above (rated_of p) v in
    cond (eqb q 2) under over

-- "a via w on the preceding level joined to v", where v is a via.
unfoldable pub first_via : PlanData → List ℕ → Option ℕ
first_via p [] = none
first_via p (w ∷ ws) =
    let more = first_via p ws in
    cond (is_via p w) (some w) more

unfoldable pub joined_via : PlanData → ℕ → ℕ → Option ℕ
joined_via p q v =
    let w = first_via p (preceding p q v) in
    cond (is_via p v) w none

abbrev pub or_else : Option ℕ → Option ℕ → Option ℕ
or_else none o = o
or_else (some w) o = some w

-- "a nearest via v at or before its left bound with a via w ..": that w for the last such v up to `bound`, along a level;
unfoldable pub nearest_left : PlanData → ℕ → ℕ → List ℕ → Option ℕ
nearest_left p q bound [] = none
nearest_left p q bound (v ∷ vs) =
    let here = or_else (nearest_left p q bound vs) (joined_via p q v) in
    cond (leb v bound) here none

-- "likewise on the right": for the first such v from `bound` on.
unfoldable pub nearest_right : PlanData → ℕ → ℕ → List ℕ → Option ℕ
nearest_right p q bound [] = none
nearest_right p q bound (v ∷ vs) =
    let more = nearest_right p q bound vs in
    let here = or_else (joined_via p q v) more in
    cond (leb bound v) here more

-- Whether run r is bounded by vias from u to w.
abbrev pub lies_between : ℕ → ℕ → Option ℕ → Option ℕ → Bool
lies_between u w none b = false
lies_between u w (some a) none = false
lies_between u w (some a) (some b) = leb u a && leb b w

-- "every bounded run between those two w's is settled"
unfoldable pub settled_between : PlanData → State → ℕ → ℕ → Bool
settled_between p s u w =
    every (λ r. let settled = is_settled p s r in cond (lies_between u w r.left r.right) settled true)
    (runs_on p (level_of p u))

abbrev pub both_settled : PlanData → State → Option ℕ → Option ℕ → Bool
both_settled p s none w = false
both_settled p s (some u) none = false
both_settled p s (some u) (some w) = settled_between p s u w

abbrev pub ready_from : PlanData → ℕ → State → List ℕ → Option ℕ → Option ℕ → Bool
ready_from p q s vs none b = false
ready_from p q s vs (some a) none = false
ready_from p q s vs (some a) (some b) = both_settled p s (nearest_left p q a vs) (nearest_right p q b vs)

-- Whether bounded run r is ready in pass q.
unfoldable pub is_ready : PlanData → ℕ → State → Run → Bool
is_ready p q s r = ready_from p q s (level_at p r.level) r.left r.right
