-- What lies in the buffer, before what is still to come, is the whole list as far as there is room.
use Rattle.std.proofs.Common.{◌≡◌, ◌≤◌, ◌-◌, ◌++◌, length, take, drop, map}
use Rattle.script_words.specs.Parts.{parts}
use Rattle.script_words.specs.Numbers.{number_in, signed_of}
use Rattle.script_runs.specs.Lists.{signeds_in}
use Rattle.script_runs.proofs.lists.signeds_in.Given as goal

abbrev pub invariant-loop-from : goal.invariant-loop-from
invariant-loop-from l =
    (l.from ≤ length l.word) × (l.n ≤ length l.initial.out) × (length l.out ≡ length l.initial.out)
    × (take (length l.initial.out) (take l.n l.out ++ map (λ v. signed_of (number_in v)) (parts 44 (drop l.from l.word))) ≡ take (length l.initial.out) (signeds_in l.word))

abbrev pub decreases-loop-from : goal.decreases-loop-from
decreases-loop-from l = length l.word - l.from
