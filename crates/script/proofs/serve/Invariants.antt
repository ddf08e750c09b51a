-- What is left in the room lies in it.
use Rattle.std.proofs.Common.{◌≤◌, length}
use Rattle.script.proofs.serve.Given as goal

abbrev pub invariant-loop : goal.invariant-loop
invariant-loop g l = (l.from ≤ l.to) × (l.to ≤ length l.room)
