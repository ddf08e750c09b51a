-- By `LinksFrom`, at each turn the segments from i on are written.
use Rattle.prelim_classes.proofs.InnerLaws.{LinksFrom}
use Rattle.prelim_classes.proofs.inner.link_vias.Given as goal

abbrev pub invariant-loop-i : goal.invariant-loop-i
invariant-loop-i l = LinksFrom l.vias l.from l.to l.link l.i
