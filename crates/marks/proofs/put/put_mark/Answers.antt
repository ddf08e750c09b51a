use mathlib.Core.Path.{◌∙◌}
use Rattle.marks.specs.Marks.{five_of}
use Rattle.marks.proofs.Stores.{is0, is1, is2}
use Rattle.marks.proofs.put.put_mark.Goals as goal

pub returns-in-Box : goal.returns-in-Box
unfolding five_of
returns-in-Box c = c.put_five.ensures ∙ rw (c.in-Box.is, is0)

pub returns-in-Bend : goal.returns-in-Bend
unfolding five_of
returns-in-Bend c = c.put_five-in-Bend.ensures ∙ rw (c.in-Bend.is, is1, is0)

pub returns-in-Line : goal.returns-in-Line
unfolding five_of
returns-in-Line c = c.put_five-in-Line.ensures ∙ rw (c.in-Line.is, is2)
