-- Its test is that of the definition.
use Rattle.std.proofs.Common.{arith}
use Rattle.text_write.proofs.AgainLaws.{stored-limits, leaves-short, leaves-written}
use Rattle.text_write.proofs.again.text_if_short.Goals as goal

pub returns-then-out-n : goal.returns-then-out-n
returns-then-out-n c = leaves-short _ _ (omega (arith, c.if-out-n.true, c.requires.1))

pub stored_text-requires : goal.stored_text-requires
stored_text-requires c = (stored-limits c.requires.0, omega (arith, c.if-out-n.false, c.requires.1))

pub returns : goal.returns
returns c = leaves-written _ _ (omega (arith, c.if-out-n.false, c.requires.1)) c.stored_text.ensures
