use Rattle.std.proofs.Common.{◌∙◌}
use lib.Seq.{length-take-le}
use Rattle.marks.proofs.Laws.{asked-each}
use Rattle.marks.proofs.marks.mark.Goals as goal

pub mark_at-requires : goal.mark_at-requires
mark_at-requires c =
    let a = c.requires.lists in
    record { lists = asked-each c.heights.new.out a (c.heights.auto.out ∙ length-take-le _ _ a.agreeing.few) c.heights.ensures; number = c.requires.number }
