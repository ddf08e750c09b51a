use Rattle.ints.proofs.Laws.{back}
use Rattle.text_write.proofs.Written.{signed-marked}
use Rattle.text_write.proofs.number.put_signed.Goals as goal

pub put_marked-requires : goal.put_marked-requires
put_marked-requires c = let z = back c.ranges.z in rw (c.unsigned_abs.ensures.value, z, signed-marked c.args.z) c.requires.1

pub returns : goal.returns
returns c = let z = back c.ranges.z in rw (c.unsigned_abs.ensures.value, z, signed-marked c.args.z) at c.put_marked.ensures
