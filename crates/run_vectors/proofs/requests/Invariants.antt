-- It stops where the position does not rise, so what is left of the text falls.
use Rattle.std.proofs.Common.{length, ◌-◌}
use Rattle.run_vectors.proofs.requests.Given as goal

abbrev pub decreases-loop-at : goal.decreases-loop-at
decreases-loop-at g l = length l.text - l.at
