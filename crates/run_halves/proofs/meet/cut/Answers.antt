use Rattle.std.proofs.Common.{rules, arith, ◌∙◌}
use Rattle.ints.proofs.Laws.{back}
use Rattle.run_halves.proofs.Cut.{map_next, map-end, cut-is}
use Rattle.run_halves.proofs.meet.cut.Goals as goal

pub loop-x-preserved : goal.loop-x-preserved
loop-x-preserved c = let l = c.loop-x in map_next _ l.z l.x-index _ _ (omega (arith, c.loop-x-test.true, l.auto.z)) (search rules) l.invariant

pub returns : goal.returns
returns c = let l = c.loop-x in
    simp (back c.ranges.m) at (map-end _ l.z l.x-index _ (omega (arith, c.loop-x-test.false, l.auto.z)) l.invariant) ∙ cut-is c.args.m c.args.z.now
