-- So many words were passed that begin with the name.
use Rattle.std.proofs.Common.{◌≡◌, ◌≤◌, ◌-◌, ◌+◌, length, drop}
use Rattle.script_words.specs.Parts.{words}
use Rattle.script_runs.specs.Names.{times_of}
use Rattle.script_runs.proofs.names.times.Given as goal

abbrev pub invariant-loop-n : goal.invariant-loop-n
invariant-loop-n l =
    (l.from ≤ length l.given) × (l.n ≤ l.from) × (l.n + times_of l.name (words (drop l.from l.given)) ≡ times_of l.name (words l.given))

abbrev pub decreases-loop-n : goal.decreases-loop-n
decreases-loop-n l = length l.given - l.from
