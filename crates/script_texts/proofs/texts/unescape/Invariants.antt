-- The bytes in the buffer before the text from `at` on are, up to the buffer's length, the whole text.
use Rattle.std.proofs.Common.{◌≡◌, ◌≤◌, ◌-◌, length, take, drop}
use Rattle.script_texts.specs.Texts.{unescaped}
use Rattle.script_texts.specs.inner.Units.{cut}
use Rattle.script_texts.proofs.TextLaws.{joined}
use Rattle.script_texts.proofs.texts.unescape.Given as goal

abbrev pub invariant-loop-at : goal.invariant-loop-at
invariant-loop-at l =
    (l.at ≤ length l.text) × (l.n ≤ length l.initial.out) × (length l.out ≡ length l.initial.out)
    × (cut (length l.initial.out) (joined (take l.n l.out) (unescaped (drop l.at l.text))) ≡ cut (length l.initial.out) (unescaped l.text))

abbrev pub decreases-loop-at : goal.decreases-loop-at
decreases-loop-at l = length l.text - l.at
