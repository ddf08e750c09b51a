-- Where checks 1 and 2 hold, the parts lent are the text's data.
use Rattle.std.proofs.Common.{◌≡◌}
use Rattle.ints.specs.Refusals.{first_refusal}
use Rattle.text_read.proofs.verdict_on.Goals as goal

pub returns-then-not-s : goal.returns-then-not-s
unfolding first_refusal
returns-then-not-s c = rw c.if-not-s.true

pub returns-then-not-s-2 : goal.returns-then-not-s-2
unfolding first_refusal
returns-then-not-s-2 c = rw (c.if-not-s.false, c.if-not-s-2.true)

pub returns : goal.returns
unfolding first_refusal
returns c = rw (c.if-not-s.false, c.if-not-s-2.false) c.check_plan.ensures
