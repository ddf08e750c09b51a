use Rattle.std.proofs.Common.{◌+◌, ◌∙◌, sym, arith}
use Rattle.prelim_classes.specs.inner.Arranged.{level_by}
use Rattle.prelim_classes.proofs.ArrangeLaws.{sets-on, sets_end, level-long, level-at}
use Rattle.prelim_classes.proofs.arrange.write_order.Goals as goal

pub loop-j-preserved : goal.loop-j-preserved
loop-j-preserved c =
    let a = c.args in
    let l = c.loop-j in
    let is = c.vertex_at.ensures ∙ sym (level-at a.reversed a.v a.n l.j (omega arith)) in
    sym (sets-on l.order (a.v + l.j) (a.v + (l.j + 1)) l.j (level_by a.reversed a.v a.n) c.vertex_at.result (omega (arith, level-long a.reversed a.v a.n)) (omega arith) is) ∙ l.invariant

pub returns : goal.returns
returns c =
    let a = c.args in
    let l = c.loop-j in
    sym (sets_end l.order (a.v + l.j) l.j (level_by a.reversed a.v a.n) (omega (arith, level-long a.reversed a.v a.n))) ∙ l.invariant
