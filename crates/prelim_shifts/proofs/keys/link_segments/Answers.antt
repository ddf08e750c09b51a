use Rattle.std.proofs.Common.{arith, ◌≡◌, ◌-◌, ◌∙◌, sym, length, get_or, ap, ℕ}
use lib.ListN.{length-replicate}
use Rattle.prelim_shifts.specs.inner.Shifts.{offset_key}
use Rattle.prelim_shifts.proofs.KeyLaws.{keyed-start, keyed-next, keyed-end, heads-none, offset-key-small}
use Rattle.prelim_shifts.proofs.keys.link_segments.Goals as goal

pub loop-i-init : goal.loop-i-init
loop-i-init c =
    let a = c.args in
    let p = c.requires.uppers_len in
    let q = c.requires.at_most in
    keyed-start (offset_key a.classes.now) a.uppers.now a.lowers.now a.head.now a.link.now (sym p.0) q.1 p.1 (heads-none a.head.now q.2)

pub loop-i-preserved : goal.loop-i-preserved
loop-i-preserved c =
    let a = c.args in
    let p = c.requires.uppers_len in
    let q = c.requires.at_most in
    let l = c.loop-i in
    let f = c.put_first.ensures in
    let small = offset-key-small 64 a.classes.now q.0 (get_or a.uppers.now (l.i - 1) 0) (get_or a.lowers.now (l.i - 1) 0) in
    keyed-next (offset_key a.classes.now) a.uppers.now a.lowers.now l.head l.link (sym p.0) (l.auto.link ∙ q.1) l.i (omega arith) (omega arith) l.invariant c.offset_key-k.result c.offset_key-k.ensures (omega (arith, c.offset_key-k.ensures, small, ap length q.2, length-replicate {A = ℕ} 65 2048)) _ _ f.0 f.1

pub returns : goal.returns
returns c =
    let a = c.args in
    let p = c.requires.uppers_len in
    let l = c.loop-i in
    let z : l.i ≡ 0 = omega arith in
    keyed-end (offset_key a.classes.now) a.uppers.now a.lowers.now l.head l.link (sym p.0) (l.auto.link ∙ c.requires.at_most.1) (rw z at l.invariant)
