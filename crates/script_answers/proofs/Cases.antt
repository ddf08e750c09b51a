-- Answers, computed. Assumes nothing.
use mathlib.Core.Path.{◌≡◌, refl}
use mathlib.Core.Bool.{true, false}
use mathlib.Core.List.{[], ◌∷◌, map}
use lib.IntN.{pos, negsuc}
use Rattle.text.specs.Bytes.{bytes}
use Rattle.text.specs.Decimal.{digits, decimal, signed}
use Rattle.marks.specs.Marks.{box, bend, line}
use Rattle.sheet.specs.declared.types.Stage.TheVariants.{Empty, Loaded, Drawn}
use Rattle.script_marks.specs.Marks.{half_steps, signed_half_steps, mark_words}
use Rattle.script_answers.specs.Answers.{unknown, refused, done, stage, text, mark, walked, positions, stage_words, position_words, line_of}

words : map line_of (unknown ∷ refused 13 ∷ done ∷ stage Empty ∷ stage (Loaded 5 4) ∷ stage (Drawn 5 4 9) ∷ [])
    ≡ bytes "unknown\n" ∷ bytes "refused 13\n" ∷ bytes "ok\n" ∷ bytes "ok empty\n" ∷ bytes "ok loaded 5 4\n" ∷ bytes "ok drawn 5 4 9\n" ∷ []
unfolding line_of stage_words digits decimal
words = refl

-- the length counts the LF
lines : line_of (text (bytes "(end)\n")) ≡ bytes "ok 6 (end)\n"
unfolding line_of digits decimal
lines = refl

-- -5, 8, -1 and 0 half steps
marks : map line_of (mark (box (negsuc 4) 0 3) ∷ mark (bend (pos 8) 10) ∷ mark (line (negsuc 0) 0 (pos 0) 10) ∷ [])
    ≡ bytes "ok box -2.5 0 3\n" ∷ bytes "ok bend 4.0 10\n" ∷ bytes "ok line -0.5 0 0.0 10\n" ∷ []
unfolding line_of mark_words signed_half_steps half_steps digits decimal
marks = refl

runs : map line_of (positions [] ∷ positions (negsuc 6 ∷ pos 0 ∷ pos 12 ∷ []) ∷ []) ≡ bytes "ok\n" ∷ bytes "ok -7 0 12\n" ∷ []
unfolding line_of position_words signed digits decimal
runs = refl

walks : map line_of (walked (record { crossed = false; taken = 0 }) ∷ walked (record { crossed = true; taken = 64 }) ∷ []) ≡ bytes "ok clear 0\n" ∷ bytes "ok crossed 64\n" ∷ []
unfolding line_of digits decimal
walks = refl
