use Rattle.std.proofs.Common.{◌+◌, ◌<◌, arith, length}
use Rattle.prelim_classes.proofs.ClassLaws.{classing-on, classing-end}
use Rattle.prelim_classes.proofs.ArrangeLaws.{part-long, part_at}
use Rattle.prelim_classes.proofs.classes.class_level.Goals as goal

pub loop-v-preserved : goal.loop-v-preserved
loop-v-preserved c =
    let a = c.args in
    let l = c.loop-v in
    let k = c.class_vertex-current in
    let here = part_at a.order.now a.from a.to c.requires.from_le_to.1 l.v-index (omega (arith, part-long a.order.now a.from a.to c.requires.from_le_to.1)) in
    let inside : c.from.result < length a.next.now = omega (arith, c.from.ensures, here, c.requires.classable.vertices (a.from + l.v-index) (omega (arith, part-long a.order.now a.from a.to c.requires.from_le_to.1))) in
    classing-on _ _ _ _ _ _ _ _ l.invariant c.from.result c.from.ensures inside (omega arith) k.result _ k.ensures.value k.ensures.classes_after

pub returns : goal.returns
returns c =
    let l = c.loop-v in
    classing-end _ _ _ _ _ _ _ _ l.invariant (omega arith)
