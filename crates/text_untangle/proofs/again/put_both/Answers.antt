-- Its tests are those of `untangled_text`.
use Rattle.std.proofs.Common.{arith}
use Rattle.text_write.proofs.AgainLaws.{stored-limits}
use Rattle.text_untangle.proofs.TextLaws.{no_room, no-numbers, both_left}
use Rattle.text_untangle.proofs.again.put_both.Goals as goal

pub text_length-requires : goal.text_length-requires
text_length-requires c = c.requires.stored

pub returns-then-out-text_length : goal.returns-then-out-text_length
returns-then-out-text_length c p h = no_room p _ _ _ _ _ _ h (omega (arith, c.if-out-text_length.true, c.text_length.ensures))

pub returns-then-numbers-vertices : goal.returns-then-numbers-vertices
returns-then-numbers-vertices c p h = no-numbers p _ _ _ _ _ _ h c.if-numbers-vertices.true

pub put_numbers-requires : goal.put_numbers-requires
put_numbers-requires c = (c.requires.reach, c.if-numbers-vertices.false)

pub stored_text-requires : goal.stored_text-requires
stored_text-requires c = (stored-limits c.requires.stored, omega (arith, c.if-out-text_length.false, c.text_length.ensures))

pub returns : goal.returns
returns c p h =
    both_left p _ _ _ _ _ _ h (omega (arith, c.if-out-text_length.false, c.text_length.ensures)) c.if-numbers-vertices.false
    c.stored_text.ensures c.put_numbers.ensures
