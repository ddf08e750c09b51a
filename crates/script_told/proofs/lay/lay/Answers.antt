-- By the room and by what is asked for.
use Rattle.script_told.proofs.LayLaws.{lays-none, lays-counted, lays-written}
use Rattle.script_told.proofs.lay.lay.Goals as goal

pub returns-then-room-at : goal.returns-then-room-at
returns-then-room-at c = lays-none c.requires c.if-room-at.true

pub returns-then-not-write : goal.returns-then-not-write
returns-then-not-write c = lays-counted c.requires c.if-room-at.false c.if-not-write.true

pub returns : goal.returns
returns c = lays-written c.requires c.if-room-at.false c.if-not-write.false c.put_word.ensures
