-- Whether all numbers may stand there is whether those from `from` on may.
use Rattle.std.proofs.Common.{◌≡◌, ◌≤◌, ◌-◌, length, drop}
use Rattle.plan.specs.Checks.{every}
use Rattle.script_words.specs.Parts.{parts}
use Rattle.script_words.specs.Numbers.{number_in}
use Rattle.script_runs.specs.Lists.{may_stand, is_list}
use Rattle.script_runs.proofs.lists.is_list.Given as goal

abbrev pub invariant-loop-kind : goal.invariant-loop-kind
invariant-loop-kind l =
    (l.from ≤ length l.word) × (every (λ v. may_stand l.kind (number_in v)) (parts 44 (drop l.from l.word)) ≡ is_list l.kind l.word)

abbrev pub decreases-loop-kind : goal.decreases-loop-kind
decreases-loop-kind l = length l.word - l.from
