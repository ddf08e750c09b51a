use Rattle.std.proofs.Common.{arith}
use Rattle.prelim_classes.proofs.ClassLaws.{level-ends, levelling-on, levelling-end}
use Rattle.prelim_classes.proofs.classes.class.Goals as goal

pub class_level-requires-clause-from_le_to : goal.class_level-requires-clause-from_le_to
class_level-requires-clause-from_le_to c =
    let l = c.loop-l in
    (omega arith, omega (arith, level-ends _ _ _ _ _ _ _ _ l.invariant (omega arith), c.from.ensures))

pub loop-l-preserved : goal.loop-l-preserved
loop-l-preserved c =
    let l = c.loop-l in
    levelling-on _ _ _ _ _ _ _ _ l.invariant _ (omega arith) (omega (arith, c.from.ensures)) _ c.class_level.ensures

pub returns : goal.returns
returns c =
    let l = c.loop-l in
    levelling-end _ _ _ _ _ _ _ _ l.invariant (omega arith)
