use Rattle.marks.specs.Half.{whole_of}
use Rattle.marks.proofs.marks.vertex_mark.Goals as goal

pub returns : goal.returns
unfolding whole_of
returns c = rw c.if-via.false
