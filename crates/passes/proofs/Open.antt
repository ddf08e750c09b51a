-- Named on an `unfolding` line, `passes_open` opens every definition of this floor and of the floors below.
use Rattle.run.proofs.Cases.{run_open}
use Rattle.preliminary.proofs.Open.{preliminary_open}
use Rattle.passes.specs.Runs.{runs_from, runs_on, runs_of_levels, runs_of, run_at}
use Rattle.passes.specs.State.{put, doubled_on, doubled_in, start_at, take_on}
use Rattle.passes.specs.Ready.{doubled_span, has_no_slack, is_settled, preceding, preceding_ratings, first_via, joined_via, nearest_left, nearest_right, settled_between, is_ready}
use Rattle.passes.specs.Passes.{boxes_at, placed, after, is_due, visit, visit_each, pass, three_passes}
use Rattle.passes.specs.Drawing.{boxes_with, listed, final_state, trace_of, drawing_of}
use Rattle.ints.specs.Reach.{all_within}
use Rattle.passes.specs.Words.{replay, before, finished, keeps_order, inner_upright, bends_between, bends_at, bend_count, strand_bends_twice, bends_at_most_twice, times_placed, times_due, placed_as_due, doubled_between, differences, through_first, distances_then, far_apart, is_placement_then, place_of, sideways_from, sideways_sum, sideways_then, boxes_listed, drawing_within}

unfoldable pub passes_open : Unit {0}
unfolding run_open preliminary_open runs_from runs_on runs_of_levels runs_of run_at put doubled_on doubled_in start_at take_on doubled_span has_no_slack is_settled preceding preceding_ratings first_via joined_via nearest_left nearest_right settled_between is_ready boxes_at placed after is_due visit visit_each pass three_passes boxes_with listed final_state trace_of drawing_of replay before finished keeps_order inner_upright bends_between bends_at bend_count strand_bends_twice bends_at_most_twice times_placed times_due placed_as_due doubled_between differences through_first distances_then far_apart is_placement_then place_of sideways_from sideways_sum sideways_then all_within boxes_listed drawing_within
passes_open = tt
