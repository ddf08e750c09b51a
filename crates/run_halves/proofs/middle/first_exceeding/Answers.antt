use Rattle.std.proofs.Common.{arith, ◌+◌}
use Rattle.run_halves.proofs.Middles.{sum_near, next-exceeds}
use Rattle.run_halves.proofs.middle.first_exceeding.Goals as goal

pub overflow_mul-sums : goal.overflow_mul-sums
overflow_mul-sums c = let q = c.requires.sums_value in let near = sum_near (c.args.i + 1) c.args.sums.now q.0 q.1 q.2.within in omega (arith, near.0, near.1)

pub returns-then-sums-i : goal.returns-then-sums-i
returns-then-sums-i c = let q = c.requires.sums_value in next-exceeds c.args.t c.args.i c.args.sums.now q.0 q.1 q.2 c.requires.t_bound c.if-sums-i.true
