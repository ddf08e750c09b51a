use Rattle.std.proofs.Common.{arith}
use Rattle.pass_place.proofs.Rows.{row-order}
use Rattle.pass_place.proofs.one.place_near.Goals as goal

pub overflow_sub-s : goal.overflow_sub-s
overflow_sub-s c = omega (arith, c.from.ensures, c.from-row.ensures, row-order c.requires.rowed)

pub neighbour_positions-requires : goal.neighbour_positions-requires
neighbour_positions-requires c = let r = c.requires.rowed in let a = c.from-row.ensures in let b = c.from.ensures in
    (omega (arith, row-order r, r.inside), omega (arith, c.requires.first_in_bounds), r.vertices)

pub slice_bounds-place-end-5 : goal.slice_bounds-place-end-5
slice_bounds-place-end-5 c = let r = c.requires.rowed in omega (arith, c.from-row.ensures, c.from.ensures, row-order r, r.inside, r.summed)
