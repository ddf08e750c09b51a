use Rattle.std.proofs.Common.{arith, ◌≡◌, ◌-◌, ◌∙◌, sym, length, get_or, ap, ℕ}
use lib.ListN.{length-replicate}
use Rattle.prelim_shifts.specs.inner.Shifts.{gap_key}
use Rattle.prelim_shifts.proofs.KeyLaws.{keyed-start, keyed-next, keyed-end, heads-none, gap-key-small}
use Rattle.prelim_shifts.proofs.keys.link_pairs.Goals as goal

pub loop-i-init : goal.loop-i-init
loop-i-init c =
    let a = c.args in
    let p = c.requires.order_len in
    let q = c.requires.below in
    keyed-start (gap_key a.classes.now) a.order.now a.right.now a.head.now a.link.now (p.1 ∙ sym p.0) (q.2 ∙ sym p.0) (omega (arith, p.0, p.2)) (heads-none a.head.now q.3)

pub loop-i-preserved : goal.loop-i-preserved
loop-i-preserved c =
    let a = c.args in
    let p = c.requires.order_len in
    let q = c.requires.below in
    let l = c.loop-i in
    let f = c.put_first.ensures in
    let k = rw (c.from.ensures, c.from-in-loop-i.ensures) at c.gap_key-k.ensures in
    let small = gap-key-small 64 a.classes.now q.1 (get_or a.order.now (l.i - 1) 0) (get_or a.right.now (l.i - 1) 0) in
    keyed-next (gap_key a.classes.now) a.order.now a.right.now l.head l.link (p.1 ∙ sym p.0) (l.auto.link ∙ q.2 ∙ sym p.0) l.i (omega arith) (omega arith) l.invariant c.gap_key-k.result k (omega (arith, k, small, ap length q.3, length-replicate {A = ℕ} 65 2048)) _ _ f.0 f.1

pub returns : goal.returns
returns c =
    let a = c.args in
    let p = c.requires.order_len in
    let l = c.loop-i in
    let z : l.i ≡ 0 = omega arith in
    keyed-end (gap_key a.classes.now) a.order.now a.right.now l.head l.link (p.1 ∙ sym p.0) (l.auto.link ∙ c.requires.below.2 ∙ sym p.0) (rw z at l.invariant)
