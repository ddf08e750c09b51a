use Rattle.std.proofs.Common.{◌≡◌, ℕ, List, ◌+◌, ◌-◌, ◌∙◌, sym, subst, ap, arith, length, get_or, set}
use Rattle.std.proofs.Math.ListN.{length-replicate}
use Rattle.prelim_classes.specs.inner.Walks.{same_class}
use Rattle.prelim_classes.proofs.SiblingLaws.{SiblingsFrom, siblings-start, siblings-on}
use Rattle.prelim_classes.proofs.siblings.siblings.Goals as goal

pub loop-i-init : goal.loop-i-init
loop-i-init c =
    let a = c.args in
    let p = c.requires.classes_len_bound in
    siblings-start a.order.now a.right.now a.classes.now p.0 a.sibling.now p.1

pub loop-i-preserved : goal.loop-i-preserved
loop-i-preserved c =
    let a = c.args in
    let p = c.requires in
    let l = c.loop-i in
    let i = l.i - 1 in
    let e : l.i ≡ i + 1 = omega arith in
    let w = subst (λ (x : ℕ). SiblingsFrom a.order.now a.right.now a.classes.now l.sibling x) e l.invariant in
    let now : c.write_sibling.new.sibling ≡ set l.sibling (get_or a.right.now i 0) (same_class (get_or a.order.now i 0) (get_or a.right.now i 0) a.classes.now) = rw c.from.ensures at c.write_sibling.ensures in
    let long = l.auto.sibling ∙ ap length p.classes_len_bound.1 ∙ length-replicate (length a.classes.now) 2048 in
    subst (λ (x : List ℕ). SiblingsFrom a.order.now a.right.now a.classes.now x i) (sym now)
    (siblings-on a.order.now a.right.now a.classes.now i (omega arith) (omega (arith, p.right_len.0)) l.sibling long p.classes_len_bound.0 (p.right_len.1 i (omega arith)) w)
