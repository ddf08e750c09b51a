use Rattle.std.proofs.Common.{arith, fold, set}
use Rattle.prelim_classes.specs.inner.Links.{chain}
use Rattle.prelim_classes.proofs.ChainLaws.{walk-on, walk-end}
use Rattle.prelim_classes.proofs.walk.write.Goals as goal

pub loop-v-preserved : goal.loop-v-preserved
loop-v-preserved g c =
    let a = c.args in
    let l = c.loop-v in
    rw c.from-v.ensures (walk-on _ a.next.now c.requires.0 l.v l.out (fold (λ xs v. set xs v a.x) a.out.now (chain a.next.now a.top)) l.invariant (omega arith))

pub returns : goal.returns
returns g c =
    let a = c.args in
    let l = c.loop-v in
    walk-end _ a.next.now c.requires.0 l.v l.out (fold (λ xs v. set xs v a.x) a.out.now (chain a.next.now a.top)) l.invariant (omega arith)
