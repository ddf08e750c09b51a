use Rattle.std.proofs.Common.{arith, ◌∙◌}
use Rattle.ints.proofs.Laws.{back'}
use Rattle.prelim_shifts.proofs.CollectLaws.{collect-room, collect-on, collect-count, collect-end}
use Rattle.prelim_shifts.proofs.collect.offsets.Goals as goal

pub bounds-out-s : goal.bounds-out-s
bounds-out-s c = let r = c.requires.rising in omega (arith, collect-room _ _ _ _ _ _ _ r.0 c.loop-i.invariant (omega arith) r.3)

pub loop-i-preserved : goal.loop-i-preserved
loop-i-preserved c =
    let r = c.requires.rising in
    let e = back' c.offset.result c.offset.type_inv ∙ c.offset.ensures in
    rw c.from-i.ensures (collect-on _ _ _ _ _ _ _ r.0 c.loop-i.invariant (omega arith) r.3 _ e)

pub returns : goal.returns
returns c = let r = c.requires.rising in (collect-count _ _ _ _ _ _ _ r.0 c.loop-i.invariant (omega arith), collect-end _ _ _ _ _ _ _ r.0 c.loop-i.invariant (omega arith))
