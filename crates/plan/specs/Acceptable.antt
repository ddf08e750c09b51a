-- Which plan data are those of a text that passes checks 1 to 6.
use Rattle.std.specs.Prelude.{Bool, true, false, cond, ◌&&◌, List, [], ◌∷◌, ℕ, eqb, leb, length}
use Rattle.ints.specs.Lists.{sum}
use Rattle.ints.specs.Ratings.{all_ratings}
use Rattle.ints.specs.Refusals.{none_refuses}
use Rattle.plan.specs.Plan.{PlanData, vertex_count}
use Rattle.plan.specs.Limits.{within, max_levels, max_gap, max_spacing, max_half_width, max_on_level, max_vertices, max_segments}
use Rattle.plan.specs.Checks.{every, checks_of}

-- Each vertex has its half-width: a box one within the limit, a via 0.
abbrev pub half_holds : Bool → ℕ → Bool
half_holds true h = eqb h 0
half_holds false h = within 1 max_half_width h

unfoldable pub halves_hold : List Bool → List ℕ → Bool
halves_hold [] [] = true
halves_hold [] (h ∷ hs) = false
halves_hold (v ∷ vs) [] = false
halves_hold (v ∷ vs) (h ∷ hs) =
    let more = halves_hold vs hs in
    cond (half_holds v h) more false

-- Every number and count is within its limit, and the counts agree.
unfoldable pub limits_hold : PlanData → Bool
limits_hold p =
    let sizes = every (within 1 max_on_level) p.sizes in
    let halves = halves_hold p.vias p.halves in
    within 1 max_levels p.levels && within 1 max_gap p.gap && within 1 max_spacing p.spacing
    && eqb (length p.sizes) p.levels && sizes && eqb (sum p.sizes) (vertex_count p)
    && leb (vertex_count p) max_vertices && halves
    && eqb (length p.lowers) (length p.uppers) && leb (length p.uppers) max_segments
    && eqb (length p.ratings) (length p.uppers) && all_ratings p.ratings

unfoldable pub acceptable : PlanData → Bool
acceptable p = limits_hold p && none_refuses (checks_of p)
