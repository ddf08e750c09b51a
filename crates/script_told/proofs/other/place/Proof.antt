-- `script_told::other::place` meets its contract: an answer buffer of 65 positions is refused as every longer one is.
use mathlib.Core.Path.{sym}
use lib.Seq.{length-take-le}
use borrow.Author.Rules.{rules}
use Rattle.script_told.proofs.Single.{placed, places-cut}
use Rattle.script_told.proofs.other.place.Statement.{statement}
use Rattle.script_told.proofs.other.place.Tie as tie

at-most-requires : tie.Need-at_most-room-requires
at-most-requires c κs = search rules

slice-aggregate-answer-run : tie.Need-slice_bounds-answer_run-end
slice-aggregate-answer-run c = sym (length-take-le _ _ c.requires.0.old)

slice-aggregate-answer-run-2 : tie.Need-slice_bounds-answer_run-end-2
slice-aggregate-answer-run-2 c = sym (length-take-le _ _ c.requires.0.distances)

slice-aggregate-answer-run-3 : tie.Need-slice_bounds-answer_run-end-3
slice-aggregate-answer-run-3 c = sym (length-take-le _ _ c.requires.0.counts)

slice-aggregate-answer-run-4 : tie.Need-slice_bounds-answer_run-end-4
slice-aggregate-answer-run-4 c = sym (length-take-le _ _ c.requires.0.neighbours)

slice-aggregate-answer-run-5 : tie.Need-slice_bounds-answer_run-end-5
slice-aggregate-answer-run-5 c = sym (length-take-le _ _ c.requires.0.ratings)

array-borrow-prefix-answer : tie.Need-slice_bounds-answer-end
array-borrow-prefix-answer c = search rules

slice-aggregate-answer-run-6 : tie.Need-slice_bounds-answer_run-end-6
slice-aggregate-answer-run-6 c = sym (places-cut c.at_most-room.result c.args.run.room c.at_most-room.ensures)

answer-run-requires : tie.Need-answer_run-written-requires
answer-run-requires c κs = search rules

same_length : tie.Need-shape_of-out
same_length c = search rules

returns : tie.Need-returns
returns c = let a = c.args in placed _ a.run.room c.at_most-room.result c.at_most-room.ensures c.answer_run-written.ensures

pub place_spec : {M : Type 1} → statement M
place_spec =
    tie.close
    (tie.spec
    at-most-requires
    slice-aggregate-answer-run
    slice-aggregate-answer-run-2
    slice-aggregate-answer-run-3
    slice-aggregate-answer-run-4
    slice-aggregate-answer-run-5
    array-borrow-prefix-answer
    slice-aggregate-answer-run-6
    answer-run-requires
    same_length
    returns)
