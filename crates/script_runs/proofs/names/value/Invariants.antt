-- No word that was passed begins with the name.
use Rattle.std.proofs.Common.{◌≡◌, ◌≤◌, ◌-◌, length, drop}
use Rattle.script_words.specs.Parts.{words}
use Rattle.script_runs.specs.Names.{value_of}
use Rattle.script_runs.proofs.names.value.Given as goal

abbrev pub invariant-loop-from : goal.invariant-loop-from
invariant-loop-from l = (l.from ≤ length l.given) × (value_of l.name (words (drop l.from l.given)) ≡ value_of l.name (words l.given))

abbrev pub decreases-loop-from : goal.decreases-loop-from
decreases-loop-from l = length l.given - l.from
