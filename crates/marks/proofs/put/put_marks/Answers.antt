use Rattle.std.proofs.Common.{◌∙◌}
use lib.Seq.{length-take-le}
use Rattle.marks.proofs.Laws.{asked-each}
use Rattle.marks.proofs.put.put_marks.Goals as goal

pub put_each-requires : goal.put_each-requires
put_each-requires c =
    let a = c.requires.0 in
    (asked-each c.heights.new.out a (c.heights.auto.out ∙ length-take-le _ _ a.agreeing.few) c.heights.ensures, c.requires.1)
