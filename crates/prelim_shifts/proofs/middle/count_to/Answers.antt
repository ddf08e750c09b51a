use Rattle.std.proofs.Common.{rules, arith, ◌≡◌, get_or, pos, w64, to_z, of_z}
use Rattle.std.specs.Int.Signed.{le_z}
use Rattle.ints.proofs.Laws.{back}
use Rattle.prelim_shifts.proofs.MiddleLaws.{byte-small, to_on, to_end}
use Rattle.prelim_shifts.proofs.middle.count_to.Goals as goal

pub loop-x-preserved : goal.loop-x-preserved
loop-x-preserved c =
    let l = c.loop-x in let xs = c.args.xs.now in let x = get_or xs l.x-index (pos 0) in let z = to_z w64 (of_z w64 c.args.z) in
    let b : to_z w64 (of_z w64 x) ≡ x = search rules in
    let e = simp b at c.from-count.ensures in record {
      within = omega (arith, e, byte-small (le_z x z));
      whole = omega (arith, e, to_on z xs l.x-index c.loop-x-test.true);
    }

pub returns : goal.returns
returns c =
    let h = simp (back c.ranges.z) at c.loop-x.invariant.whole in
    omega (arith, h, to_end c.args.z c.args.xs.now c.loop-x.x-index (omega (arith, c.loop-x-test.false)))
