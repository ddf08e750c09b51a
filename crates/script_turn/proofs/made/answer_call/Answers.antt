-- The line of what the call replied is that of the definition.
use Rattle.std.proofs.Common.{rules, ◌≡◌, is_err}
use Rattle.script_calls.proofs.ReplyLines.{answers-call}
use Rattle.script_turn.proofs.made.answer_call.Goals as goal

pub returns : goal.returns
returns c =
    let e : c.is_err.result ≡ is_err c.step-after.result.reply = search rules in
    rw e (answers-call _ _ _ c.step-after.ensures c.say_reply-next.ensures)
