use Rattle.report_numbers.proofs.Positions.{Taken}
use Rattle.report_numbers.proofs.arrays.positions_by.Given as goal

-- the positions of the first v vertices stand at their numbers
abbrev pub invariant-loop-v : goal.invariant-loop-v
invariant-loop-v l = Taken l.m l.xs l.out l.v
