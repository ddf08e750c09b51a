use native.Mathlib.Omega.{arith}
use Rattle.marks.proofs.All.{none_yet, next-put, all-put}
use Rattle.marks.proofs.Laws.{count-is}
use Rattle.marks.proofs.put.put_each.Goals as goal

pub loop-n-init : goal.loop-n-init
loop-n-init c p d = none_yet p c.args.finals.now c.args.out.now

pub loop-n-preserved : goal.loop-n-preserved
loop-n-preserved c p d =
    let l = c.loop-n in
    rw c.put_mark.ensures (next-put p c.args.finals.now l.n c.args.out.now l.out c.mark_at-m.result (omega (arith, count-is d.lists)) (c.mark_at-m.ensures p d) (l.invariant p d))

pub returns : goal.returns
returns c p d =
    let n = count-is d.lists in
    all-put p c.args.finals.now c.loop-n.n c.args.out.now c.loop-n.out (omega arith) (omega (arith, c.requires.1)) (c.loop-n.invariant p d)
