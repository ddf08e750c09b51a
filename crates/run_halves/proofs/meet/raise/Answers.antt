use Rattle.std.proofs.Common.{rules, arith, ◌≡◌, ◌∙◌, get_or, pos, w64, to_z, of_z}
use Rattle.ints.specs.Ints.{max_z}
use Rattle.ints.proofs.Laws.{back, back'}
use Rattle.run_halves.proofs.Cut.{map_next, map-end, raise-is}
use Rattle.run_halves.proofs.meet.raise.Goals as goal

pub loop-x-preserved : goal.loop-x-preserved
loop-x-preserved c = let l = c.loop-x in let x = get_or l.z l.x-index (pos 0) in let v = c.max.result in
    let e : v ≡ max_z (to_z w64 (of_z w64 x)) (to_z w64 (of_z w64 c.args.m)) = search rules in
    let b : to_z w64 (of_z w64 x) ≡ x = search rules in
    simp (back' v c.max.type_inv) (map_next _ l.z l.x-index v _ (omega (arith, c.loop-x-test.true, l.auto.z)) (simp b at e) l.invariant)

pub returns : goal.returns
returns c = let l = c.loop-x in
    simp (back c.ranges.m) at (map-end _ l.z l.x-index _ (omega (arith, c.loop-x-test.false, l.auto.z)) l.invariant) ∙ raise-is c.args.m c.args.z.now
