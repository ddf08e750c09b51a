use Rattle.std.proofs.Common.{◌≡◌, ◌≤◌, ◌+◌, drop}
use Rattle.ints.specs.Lists.{sum}
use Rattle.run.specs.Call.{max_neighbours}
use Rattle.place_run.proofs.refusal.neighbours_in_all.Given as goal

abbrev pub invariant-loop-count : goal.invariant-loop-count
invariant-loop-count l = record { few : l.total ≤ max_neighbours; rest : l.total + sum (drop l.count-index l.counts) ≡ sum l.counts }
