-- The forms passed so far are not the line's.
use Rattle.std.proofs.Common.{◌≡◌, ◌≤◌, ◌-◌, ◌+◌, length, drop}
use Rattle.script_words.specs.Parts.{parts}
use Rattle.script_forms.specs.inner.First.{first_form}
use Rattle.script_forms.proofs.forms.first_form.Given as goal

abbrev pub invariant-loop-from : goal.invariant-loop-from
invariant-loop-from l =
    (l.from ≤ length l.forms) × (l.k ≤ l.from) × (l.k + first_form (parts 10 (drop l.from l.forms)) l.line ≡ first_form (parts 10 l.forms) l.line)

abbrev pub decreases-loop-from : goal.decreases-loop-from
decreases-loop-from l = length l.forms - l.from
