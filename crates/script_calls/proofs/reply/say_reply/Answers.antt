-- Each arm writes the line of its case, and there is room for each.
use Rattle.std.proofs.Common.{rules, ◌≡◌, Ok}
use Rattle.calls.specs.declared.types.Reply.TheVariants.{Done, Written, Given}
use Rattle.script_calls.proofs.ReplyLines.{fitted, done-room, text-room, mark-room, refused-room}
use Rattle.script_calls.proofs.reply.say_reply.Goals as goal

pub say_done-requires : goal.say_done-requires
say_done-requires c = done-room c.requires

pub say_front-requires : goal.say_front-requires
say_front-requires c = text-room c.requires c.in-Ok-Written.n

pub say_mark-requires : goal.say_mark-requires
say_mark-requires c = mark-room c.requires c.in-Ok-Given.mark

pub say_refused-requires : goal.say_refused-requires
say_refused-requires c = refused-room c.requires c.number.result (search rules)

pub returns-in-Ok-Done : goal.returns-in-Ok-Done
returns-in-Ok-Done c =
    let e : c.args.reply ≡ Ok Done = search rules in
    rw e (fitted (done-room c.requires) c.say_done.ensures)

pub returns-in-Ok-Written : goal.returns-in-Ok-Written
returns-in-Ok-Written c =
    let e : c.args.reply ≡ Ok (Written c.in-Ok-Written.n) = search rules in
    rw e (fitted (text-room c.requires c.in-Ok-Written.n) c.say_front.ensures)

pub returns-in-Ok-Given : goal.returns-in-Ok-Given
returns-in-Ok-Given c =
    let e : c.args.reply ≡ Ok (Given c.in-Ok-Given.mark) = search rules in
    rw e (fitted (mark-room c.requires c.in-Ok-Given.mark) c.say_mark.ensures)

pub returns-in-Err : goal.returns-in-Err
returns-in-Err c = rw (c.in-Err.is, ← c.number.ensures) (fitted (refused-room c.requires c.number.result (search rules)) c.say_refused.ensures)
