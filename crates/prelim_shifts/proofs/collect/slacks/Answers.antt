use Rattle.std.proofs.Common.{arith, ◌∙◌}
use Rattle.ints.proofs.Laws.{back'}
use Rattle.prelim_shifts.proofs.CollectLaws.{collect-room, collect-member, collect-on, collect-count, collect-end}
use Rattle.prelim_shifts.proofs.collect.slacks.Goals as goal

pub slack-requires : goal.slack-requires
slack-requires c =
    let r = c.requires.rising in
    let p = c.requires.gap_le_max_gap in
    (p.0, p.1, rw c.from.ensures (p.3 c.loop-i.i (omega (arith, r.1))), rw c.from-in-loop-i.ensures (p.4 c.loop-i.i (collect-member _ _ _ _ _ _ _ r.0 c.loop-i.invariant (omega arith))), p.2)

pub bounds-out-s : goal.bounds-out-s
bounds-out-s c = let r = c.requires.rising in omega (arith, collect-room _ _ _ _ _ _ _ r.0 c.loop-i.invariant (omega arith) r.3)

pub loop-i-preserved : goal.loop-i-preserved
loop-i-preserved c =
    let r = c.requires.rising in
    let e = back' c.slack.result c.slack.type_inv ∙ (rw (c.from.ensures, c.from-in-loop-i.ensures) at c.slack.ensures) in
    rw c.from-i.ensures (collect-on _ _ _ _ _ _ _ r.0 c.loop-i.invariant (omega arith) r.3 _ e)

pub returns : goal.returns
returns c = let r = c.requires.rising in (collect-count _ _ _ _ _ _ _ r.0 c.loop-i.invariant (omega arith), collect-end _ _ _ _ _ _ _ r.0 c.loop-i.invariant (omega arith))
