use Rattle.std.proofs.Common.{arith, ◌≡◌, ◌∙◌, sym, suc, ◌+◌, ◌-◌, ◌<◌}
use Rattle.ints.specs.Ints.{gap}
use Rattle.passes.specs.State.{position_of}
use Rattle.pass_tables.proofs.PositionLaws.{bits_back}
use Rattle.pass_place.proofs.OutcomeLaws.{take_none, take_on_lem, gap-right}
use Rattle.pass_place.proofs.outcome.take_on.Goals as goal

pub loop-v-preserved : goal.loop-v-preserved
unfolding gap
loop-v-preserved c = let a = c.args in let l = c.loop-v in let x = position_of a.at.now l.v in let y = position_of a.at.now (l.v + 1) in
    let h : l.v + 1 < a.high = omega (arith, c.loop-v-test.true, c.saturating_sub-v-end.ensures) in
    let g = simp (bits_back x (c.requires.3 l.v), bits_back y (c.requires.3 (l.v + 1))) at c.abs_diff.ensures ∙ gap-right x y (c.requires.4 l.v l.auto.v h) in
    let m = a.high - (l.v + 1) - 1 in
    let e : a.high - (l.v + 1) ≡ suc m = omega arith in
    rw (e, g) (sym (take_on_lem a.at.now l.v (a.high - l.v) m l.apart (omega arith))) ∙ l.invariant

pub returns : goal.returns
returns c = let a = c.args in let l = c.loop-v in sym (take_none a.at.now l.v (a.high - l.v) l.apart (omega (arith, c.loop-v-test.false, c.saturating_sub-v-end.ensures))) ∙ l.invariant
