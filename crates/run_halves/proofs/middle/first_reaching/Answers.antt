use Rattle.std.proofs.Common.{arith, ◌+◌, ◌-◌, ◌/◌}
use Rattle.run_halves.proofs.Middles.{sum_near}
use Rattle.run_halves.proofs.middle.first_reaching.Goals as goal

pub overflow_sub-sums : goal.overflow_sub-sums
overflow_sub-sums c = let l = c.loop-lo in let q = c.requires.sums_value in
    (sum_near (l.lo + (l.hi - l.lo) / 2 + 1) c.args.sums.now q.0 q.1 (omega (arith, l.invariant.order, l.invariant.end))).0

pub overflow_mul-sums : goal.overflow_mul-sums
overflow_mul-sums c = let l = c.loop-lo in let q = c.requires.sums_value in
    let near = sum_near (l.lo + (l.hi - l.lo) / 2 + 1) c.args.sums.now q.0 q.1 (omega (arith, l.invariant.order, l.invariant.end)) in omega (arith, near.0, near.1)
