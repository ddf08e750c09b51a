-- A run that is placed has at most 64 positions, and none is too large.
use Rattle.std.proofs.Common.{rules}
use Rattle.script_calls.proofs.ReplyLines.{fitted}
use Rattle.script_calls.proofs.RunLines.{positions-room, refused-room, placed-said, refused-said}
use Rattle.script_calls.proofs.run_call.answer_run.Goals as goal

pub say_positions-requires : goal.say_positions-requires
say_positions-requires c = positions-room _ c.args.answer.now _ _ c.in-Ok.ensures c.place_run.auto.answer c.requires

pub say_refused-requires : goal.say_refused-requires
say_refused-requires c = refused-room c.number.result _ _ (search rules) c.requires

pub returns-in-Ok : goal.returns-in-Ok
returns-in-Ok c =
    placed-said c.in-Ok.ensures
    (fitted (positions-room _ c.args.answer.now _ _ c.in-Ok.ensures c.place_run.auto.answer c.requires) c.say_positions.ensures)

pub returns-in-Err : goal.returns-in-Err
returns-in-Err c =
    refused-said _ c.in-Err.ensures
    (rw (← c.number.ensures) (fitted (refused-room c.number.result _ _ (search rules) c.requires) c.say_refused.ensures))
