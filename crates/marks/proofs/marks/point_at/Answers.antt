use native.Mathlib.Omega.{arith}
use Rattle.ints.proofs.Laws.{back, fit-make, abs}
use Rattle.passes.specs.State.{position_of}
use Rattle.marks.proofs.Laws.{within-at}
use Rattle.marks.proofs.marks.point_at.Goals as goal

pub new-requires : goal.new-requires
new-requires c =
    let xs = c.args.finals.now in
    let x = position_of xs c.args.v in
    let h = within-at xs c.args.v c.requires.0.within in
    rw (back (fit-make x (omega (arith, abs x, h)))) (h, c.requires.0.low c.args.v (omega (arith, c.requires.0.long, c.requires.1)))
