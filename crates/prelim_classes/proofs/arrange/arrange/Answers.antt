use Rattle.std.proofs.Common.{◌∙◌, sym, arith}
use Rattle.prelim_classes.proofs.LevelLaws.{arrange-fits, arrange-on, arrange-orders, arrange-rights}
use Rattle.prelim_classes.proofs.arrange.arrange.Goals as goal

pub write_order-requires : goal.write_order-requires
write_order-requires c =
    let l = c.loop-size in
    (omega (arith, arrange-fits _ _ _ _ _ _ l.invariant (omega arith), c.from-n.ensures), omega (arith, l.auto.order, c.requires.1))

pub write_right-requires : goal.write_right-requires
write_right-requires c =
    let l = c.loop-size in
    (omega arith, omega (arith, arrange-fits _ _ _ _ _ _ l.invariant (omega arith), c.from-n.ensures, c.write_order.auto.order), omega (arith, c.write_order.auto.order, l.auto.order, l.auto.right, c.requires.2))

pub loop-size-preserved : goal.loop-size-preserved
loop-size-preserved c =
    let l = c.loop-size in
    arrange-on _ _ _ _ _ _ l.invariant c.from-n.result (omega arith) c.from-n.ensures (l.auto.right ∙ c.requires.2 ∙ sym l.auto.order) _ _ c.write_order.ensures c.write_right.ensures

pub returns : goal.returns
returns c =
    let l = c.loop-size in
    let e = l.auto.right ∙ c.requires.2 ∙ sym l.auto.order in
    (arrange-orders _ _ _ _ _ _ l.invariant (omega arith) e, arrange-rights _ _ _ _ _ _ l.invariant (omega arith) e)
