-- Named on an `unfolding` line, `preliminary_open` opens every definition of this floor and of the floor below.
use Rattle.plan.proofs.Open.{plan_open}
use Rattle.preliminary.specs.Classes.{give, classes_on, classes_from, classes_of}
use Rattle.preliminary.specs.Place.{mark_all, asked_by, place_strand, place_each, placed_strands}
use Rattle.preliminary.specs.Shift.{gaps_in, offsets_in, insert, sort, middle, least_of, shift_of, moved, shift_each}
use Rattle.preliminary.specs.Positions.{positions_on, left_positions, right_positions, sums, preliminary}

unfoldable pub preliminary_open : Unit {0}
unfolding plan_open give classes_on classes_from classes_of mark_all asked_by place_strand place_each placed_strands gaps_in offsets_in insert sort middle least_of shift_of moved shift_each positions_on left_positions right_positions sums preliminary
preliminary_open = tt
