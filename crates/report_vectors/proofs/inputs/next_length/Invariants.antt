-- What is read so far fits.
use Rattle.std.proofs.Common.{◌≤◌}
use Rattle.report_vectors.proofs.inputs.next_length.Given as goal

abbrev pub invariant-loop : goal.invariant-loop
invariant-loop g l = l.n ≤ 65537
