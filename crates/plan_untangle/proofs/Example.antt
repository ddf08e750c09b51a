-- A tangled plan of five levels with ratings, computed: the second level of vias is exchanged, and with it the third, which had not
-- crossed it.
use mathlib.Core.Path.{◌≡◌, refl}
use mathlib.Core.Bool.{true, false}
use mathlib.Core.List.{[], ◌∷◌}
use Rattle.sorting.specs.Sort.{insert_by, sort_by}
use Rattle.ints.specs.Lists.{chosen}
use Rattle.sorting.specs.Share.{refill, share_out}
use Rattle.plan.specs.Plan.{PlanData, data_of, numbers, level_in, level_of}
use Rattle.plan.specs.Segments.{segments_from, segments_of, rated_from, rated_of, above_in, above}
use Rattle.plan_renumber.specs.Renumber.{place_in, moved_segments, renumbered}
use Rattle.plan_untangle.specs.Order.{order_to, order, untangled}

abbrev tangled : PlanData
tangled =
    data_of 5 1 1 (2 ∷ 2 ∷ 2 ∷ 2 ∷ 2 ∷ []) (false ∷ false ∷ true ∷ true ∷ true ∷ true ∷ true ∷ true ∷ false ∷ false ∷ [])
    (1 ∷ 1 ∷ 0 ∷ 0 ∷ 0 ∷ 0 ∷ 0 ∷ 0 ∷ 2 ∷ 3 ∷ []) (0 ∷ 1 ∷ 2 ∷ 3 ∷ 4 ∷ 5 ∷ 6 ∷ 7 ∷ []) (2 ∷ 3 ∷ 5 ∷ 4 ∷ 6 ∷ 7 ∷ 8 ∷ 9 ∷ [])
    (1 ∷ 2 ∷ 3 ∷ 4 ∷ 5 ∷ 6 ∷ 7 ∷ 100 ∷ [])

-- opens every definition that is computed here
unfoldable untangled_open : Unit {0}
unfolding untangled renumbered moved_segments order order_to share_out refill chosen sort_by insert_by place_in numbers level_of level_in above above_in rated_of rated_from segments_of segments_from
untangled_open = tt

tangled-order : order tangled ≡ 0 ∷ 1 ∷ 2 ∷ 3 ∷ 5 ∷ 4 ∷ 7 ∷ 6 ∷ 8 ∷ 9 ∷ []
unfolding untangled_open
tangled-order = refl

tangled-lowers : (untangled tangled).lowers ≡ 2 ∷ 3 ∷ 4 ∷ 5 ∷ 6 ∷ 7 ∷ 9 ∷ 8 ∷ []
unfolding untangled_open
tangled-lowers = refl

-- each rating goes with its segment
tangled-ratings : (untangled tangled).ratings ≡ 1 ∷ 2 ∷ 3 ∷ 4 ∷ 6 ∷ 5 ∷ 100 ∷ 7 ∷ []
unfolding untangled_open
tangled-ratings = refl
