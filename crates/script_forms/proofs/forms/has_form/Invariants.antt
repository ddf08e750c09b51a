-- The words passed so far stand for those of the form.
use Rattle.std.proofs.Common.{◌≡◌, ◌≤◌, ◌-◌, length, drop}
use Rattle.script_words.specs.Parts.{words}
use Rattle.script_forms.specs.Forms.{fits, has_form}
use Rattle.script_forms.proofs.forms.has_form.Given as goal

abbrev pub invariant-loop-from : goal.invariant-loop-from
invariant-loop-from l =
    (l.from ≤ length l.form) × (l.at ≤ length l.line) × (fits (words (drop l.from l.form)) (words (drop l.at l.line)) ≡ has_form l.form l.line)

abbrev pub decreases-loop-from : goal.decreases-loop-from
decreases-loop-from l = length l.form - l.from
