-- The plan that was read is the untangled plan, and its numbers are the order.
use Rattle.std.proofs.Common.{rules, ◌≡◌, Err}
use Rattle.text_untangle.proofs.TextLaws.{answer-accepted, answer-refused, refused-left}
use Rattle.text_untangle.proofs.again.untangle_text.Goals as goal

pub returns-in_err-r : goal.returns-in_err-r
returns-in_err-r c =
    let e : c.from_residual.result ≡ Err c.in_err-r.field-0.0 = search rules in
    rw (e, answer-refused c.args.text.now _ c.in_err-r.ensures) (refused-left _ c.args.out.now c.args.numbers.now)

pub put_both-requires : goal.put_both-requires
put_both-requires c = (answer-accepted c.args.text.now _ c.in_ok-r.ensures).held

pub returns : goal.returns
returns c = let a = answer-accepted c.args.text.now _ c.in_ok-r.ensures in rw a.read (c.put_both.ensures a.text_plan a.is_untangled)
