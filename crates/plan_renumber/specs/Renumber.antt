-- A plan's vertices numbered anew within their levels, and its segments sorted anew, each with its rating. A list of numbers m
-- says of each new number which vertex of the plan has it.
use Rattle.std.specs.Prelude.{Bool, cond, ◌&&◌, List, [], ◌∷◌, map, ℕ, suc, ◌+◌, ◌*◌, eqb, length, get_or}
use Rattle.ints.specs.Lists.{count_of}
use Rattle.sorting.specs.Sort.{sort_by}
use Rattle.plan.specs.Plan.{PlanData, data_of, vertex_count, is_via, half_width, numbers, level_of}
use Rattle.plan.specs.Limits.{max_vertices}
use Rattle.plan.specs.Segments.{Segment, Rated, rated_of}
use Rattle.plan.specs.Checks.{every}

-- The place of v in a list: how many stand before the first v. (The list's length if v is not in it.)
unfoldable pub place_in : List ℕ → ℕ → ℕ
place_in [] v = 0
place_in (x ∷ xs) v =
    let more = place_in xs v in
    let next = suc more in
    cond (eqb x v) 0 next

-- Of each vertex of the plan its new number.
unfoldable pub inverse : List ℕ → List ℕ
inverse m = map (place_in m) (numbers 0 (length m))

-- Segments by A, then B: every B is less than 1,024.
abbrev pub segment_key : Segment → ℕ
segment_key s = s.upper * max_vertices + s.lower

-- A segment in the new numbers, and one with its rating, which it keeps.
abbrev pub moved : List ℕ → Segment → Segment
moved m s = record { upper = place_in m s.upper; lower = place_in m s.lower }

abbrev pub moved_rated : List ℕ → Rated → Rated
moved_rated m r = record { segment = moved m r.segment; rating = r.rating }

-- The segments in their new order.
abbrev pub rated_key : Rated → ℕ
rated_key r = segment_key r.segment

unfoldable pub moved_segments : PlanData → List ℕ → List Rated
moved_segments p m = sort_by rated_key (map (moved_rated m) (rated_of p))

-- "Vertices are then renumbered, segments sorted anew".
unfoldable pub renumbered : PlanData → List ℕ → PlanData
renumbered p m =
    let rs = moved_segments p m in
    data_of p.levels p.gap p.spacing p.sizes (map (λ v. is_via p v) m) (map (λ v. half_width p v) m)
    (map (λ r. r.segment.upper) rs) (map (λ r. r.segment.lower) rs) (map (λ r. r.rating) rs)

-- Whether numbers are "each level's own, once each": m has each vertex of the plan once, each on the level of its place.
abbrev pub is_once : List ℕ → ℕ → Bool
is_once m v = eqb (count_of v m) 1

abbrev pub stays_on_level : PlanData → List ℕ → ℕ → Bool
stays_on_level p m i = eqb (level_of p (get_or m i 0)) (level_of p i)

unfoldable pub own_numbers : PlanData → List ℕ → Bool
own_numbers p m =
    let once = every (is_once m) (numbers 0 (vertex_count p)) in
    let level = every (stays_on_level p m) (numbers 0 (vertex_count p)) in
    eqb (length m) (vertex_count p) && once && level
