-- Each arm writes the line of its case, and there is room for each.
use Rattle.std.proofs.Common.{rules, sym}
use Rattle.script_answers.specs.Answers.{walked, refused}
use Rattle.script_answers.proofs.Lengths.{said-room}
use Rattle.script_calls.proofs.ReplyLines.{fitted}
use Rattle.script_calls.proofs.walk_call.answer_walk.Goals as goal

pub say_walk-requires : goal.say_walk-requires
say_walk-requires c = said-room (walked c.in-Ok.walk) (search rules) c.args.out.now c.args.at c.requires

pub say_refused-requires : goal.say_refused-requires
say_refused-requires c = said-room (refused c.number.result) (search rules) c.args.out.now c.args.at c.requires

pub returns-in-Ok : goal.returns-in-Ok
returns-in-Ok c =
    rw (sym c.in-Ok.ensures) (fitted (said-room (walked c.in-Ok.walk) (search rules) c.args.out.now c.args.at c.requires) c.say_walk.ensures)

pub returns-in-Err : goal.returns-in-Err
returns-in-Err c =
    rw (sym c.in-Err.ensures, ← c.number.ensures)
    (fitted (said-room (refused c.number.result) (search rules) c.args.out.now c.args.at c.requires) c.say_refused.ensures)
