use Rattle.std.proofs.Common.{◌≡◌, ◌+◌, ◌-◌, ◌∙◌, refl, sym, arith, drop, take}
use Rattle.prelim_classes.specs.inner.Arranged.{followers}
use Rattle.prelim_classes.proofs.ArrangeLaws.{sets-on, sets_end, followers-long, part-long, right_is}
use Rattle.prelim_classes.proofs.arrange.write_right.Goals as goal

pub loop-i-preserved : goal.loop-i-preserved
loop-i-preserved c =
    let a = c.args in
    let l = c.loop-i in
    let f = followers (take (a.to - a.from) (drop a.from a.order.now)) in
    let n = followers-long (take (a.to - a.from) (drop a.from a.order.now)) ∙ part-long a.order.now a.from a.to c.requires.1 in
    let is = right_is a.order.now a.from a.to c.requires.1 l.i c.right_at.result (omega arith) (omega arith) c.right_at.ensures in
    let z : l.i + 1 - a.from ≡ l.i - a.from + 1 = omega arith in
    rw z (sym (sets-on l.right l.i (l.i + 1) (l.i - a.from) f c.right_at.result (omega (arith, n)) refl is) ∙ l.invariant)

pub returns : goal.returns
returns c =
    let a = c.args in
    let l = c.loop-i in
    let n = followers-long (take (a.to - a.from) (drop a.from a.order.now)) ∙ part-long a.order.now a.from a.to c.requires.1 in
    sym (sets_end l.right l.i (l.i - a.from) (followers (take (a.to - a.from) (drop a.from a.order.now))) (omega (arith, n))) ∙ l.invariant
