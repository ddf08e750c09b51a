-- The measure of placing by halves: the number of boxes.
use Rattle.std.proofs.Common.{length}
use Rattle.run_halves.proofs.halves.+place_halves.Given as goal

abbrev pub decreases-place_halves : goal.decreases-place_halves
decreases-place_halves l = length l.old.now
