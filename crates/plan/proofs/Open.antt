-- Named on an `unfolding` line, `plan_open` opens every definition of this floor.
use Rattle.plan.specs.Plan.{numbers, levels_from, levels_of, level_at, level_in, level_of, height_of, pairs_on, siblings_of, left_sibling, right_sibling}
use Rattle.plan.specs.Segments.{segments_from, segments_of, above_in, below_in, above, below, rated_from, rated_of, ratings_above, ratings_below, inner_in, inner_segments}
use Rattle.plan.specs.Strands.{top_from, chain_from, strand_in, strand_of}
use Rattle.plan.specs.Checks.{every, any, check3, rising, check4, is_through, check5, crosses, check6, checks_of}
use Rattle.ints.specs.Lists.{sum, concat}
use Rattle.ints.specs.Ratings.{all_ratings}
use Rattle.ints.specs.Refusals.{first_refusal, is_first, none_refuses}
use Rattle.plan.specs.Acceptable.{halves_hold, limits_hold, acceptable}

unfoldable pub plan_open : Unit {0}
unfolding numbers levels_from levels_of level_at level_in level_of height_of pairs_on siblings_of left_sibling right_sibling segments_from segments_of above_in below_in above below rated_from rated_of ratings_above ratings_below inner_in inner_segments top_from chain_from strand_in strand_of every any check3 rising check4 is_through check5 crosses check6 checks_of sum concat all_ratings first_refusal is_first none_refuses halves_hold limits_hold acceptable
plan_open = tt
