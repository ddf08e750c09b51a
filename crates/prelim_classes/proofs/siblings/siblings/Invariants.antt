-- By `SiblingsFrom`, at each turn the pairs from i on are written.
use Rattle.prelim_classes.proofs.SiblingLaws.{SiblingsFrom}
use Rattle.prelim_classes.proofs.siblings.siblings.Given as goal

abbrev pub invariant-loop-i : goal.invariant-loop-i
invariant-loop-i l = SiblingsFrom l.order l.right l.classes l.sibling l.i
