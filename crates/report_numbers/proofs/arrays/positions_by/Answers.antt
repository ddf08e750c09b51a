use mir.Syntax.{w64}
use mir.Val.{to_z, of_z}
use Rattle.std.proofs.Common.{◌≡◌, get_or, rules, arith}
use Rattle.std.proofs.Math.IntN.{pos}
use Rattle.report_numbers.proofs.Positions.{take_on, take-end}
use Rattle.report_numbers.proofs.arrays.positions_by.Goals as goal

pub loop-v-preserved : goal.loop-v-preserved
loop-v-preserved c = let a = c.args in
    let l = c.loop-v in
    let e : to_z w64 (of_z w64 (get_or a.xs.now l.v (pos 0))) ≡ get_or a.xs.now l.v (pos 0) = search rules in
    take_on c.requires.once (omega (arith, c.requires.long)) l.invariant c.loop-v-test.true (search rules) e

pub returns : goal.returns
returns c = take-end c.requires.once (omega (arith, c.requires.long)) c.loop-v.invariant c.loop-v-test.false
