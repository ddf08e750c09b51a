use Rattle.std.proofs.Common.{arith}
use Rattle.run_halves.proofs.Middles.{total-some, total-reached, middles-of-ones}
use Rattle.run_halves.proofs.middle.find_middles.Goals as goal

pub overflow_sub-total : goal.overflow_sub-total
overflow_sub-total c = let q = c.requires in omega (arith, total-some c.args.sums.now q.0 q.2)

pub returns-then-total-n : goal.returns-then-total-n
returns-then-total-n c = let q = c.requires in middles-of-ones c.args.sums.now q.0 q.2 c.if-total-n.true

pub first_reaching-lower-requires-clause-t_nonzero : goal.first_reaching-lower-requires-clause-t_nonzero
first_reaching-lower-requires-clause-t_nonzero c = let q = c.requires in let ss = c.args.sums.now in (omega (arith, total-some ss q.0 q.2), omega (arith, total-reached ss q.0 q.2))
