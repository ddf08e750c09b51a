-- What is said to a command, and the sheet afterwards: a command of a script is a call, or several one after another.
use Rattle.std.specs.Prelude.{Bool, true, false, cond, List, [], ◌∷◌, map, ℕ, zero, suc, ◌+◌, replicate, pos}
use Rattle.ints.specs.Lists.{concat}
use Rattle.plan.specs.Limits.{max_vertices}
use Rattle.passes.specs.Words.{max_listed}
use Rattle.run.specs.Call.{call_of}
use Rattle.text_walk.specs.Walks.{text_walk}
use Rattle.sheet.specs.declared.types.Sheet.{Sheet}
use Rattle.calls.specs.declared.types.Call.{Call}
use Rattle.calls.specs.declared.types.Call.TheVariants.{Load, LoadTangled, Draw, Line, TextLine, Mark, Clear}
use Rattle.calls.specs.Step.{Lent, lent, step}
use Rattle.script_commands.specs.Commands.{Command, skip, unknown, load, load_tangled, draw, clear, stage, line, lines, text_line, texts, mark, marks, walk, place_run, poke}
use Rattle.script_commands.specs.Table.{long_enough}
use Rattle.script_poke.specs.declared.types.Poked.{Poked}
use Rattle.script_poke.specs.Poked as pokes
use Rattle.script_answers.specs.Answers.{Said, unknown as not_known, refused, done, stage as standing, text, mark as marked, walked, positions, line_of}
use Rattle.script_calls.specs.Said.{call_said, walk_said, run_said}

pub record Turn : Type 0 where
  pub said : List Said
  pub sheet : Sheet

abbrev pub turn : List Said → Sheet → Turn
turn said s = record { said = said; sheet = s }

-- One answer.
abbrev pub saying : Said → Sheet → Turn
saying a s = turn (a ∷ []) s

-- What is lent to a call: a text, and a buffer of so many bytes.
abbrev pub lending : List ℕ → ℕ → Lent
lending t room = lent t (replicate room 0) []

-- A call: its answer, and the sheet as it leaves it.
abbrev pub calling : Call → Lent → Sheet → Turn
calling q l s = saying (call_said q l s) (step q l s).sheet

abbrev pub is_refused : Said → Bool
is_refused not_known = false
is_refused (refused n) = true
is_refused done = false
is_refused (standing t) = false
is_refused (text l) = false
is_refused (marked m) = false
is_refused (walked w) = false
is_refused (positions xs) = false

-- "n = 0, 1, .. each as its own answer, up to and with the refusal", from n on, at most so many.
unfoldable pub up_to_refusal : (ℕ → Said) → ℕ → ℕ → List Said
up_to_refusal f n zero = []
up_to_refusal f n (suc most) =
    let more = up_to_refusal f (suc n) most in
    f n ∷ cond (is_refused (f n)) [] more

-- No sheet has more lines, of the report or of the text, or marks, with the refusal after them.
abbrev pub most_answers : ℕ
most_answers = max_vertices + max_listed + 3

-- Line n of a sheet, line n of its text as it was read, and mark n.
abbrev pub line_said : Sheet → ℕ → Said
line_said s n = call_said (Line n) (lending [] long_enough) s

abbrev pub text_said : Sheet → ℕ → Said
text_said s n = call_said (TextLine n) (lending [] long_enough) s

abbrev pub mark_said : Sheet → ℕ → Said
mark_said s n = call_said (Mark n) (lending [] 0) s

-- A poke that names no entry of the record is none.
abbrev pub poke_said : Poked → Said
poke_said p = cond p.known done not_known

unfoldable pub turn_of : Command → Sheet → Turn
turn_of skip s = turn [] s
turn_of unknown s = saying not_known s
turn_of (load t) s = calling Load (lending t 0) s
turn_of (load_tangled t) s = calling LoadTangled (lending t 0) s
turn_of draw s = calling Draw (lending [] 0) s
turn_of clear s = calling Clear (lending [] 0) s
turn_of stage s = saying (standing s.header.stage) s
turn_of (line n room) s = calling (Line n) (lending [] room) s
turn_of lines s = turn (up_to_refusal (line_said s) 0 most_answers) s
turn_of (text_line n room) s = calling (TextLine n) (lending [] room) s
turn_of texts s = turn (up_to_refusal (text_said s) 0 most_answers) s
turn_of (mark n) s = calling (Mark n) (lending [] 0) s
turn_of marks s = turn (up_to_refusal (mark_said s) 0 most_answers) s
turn_of (walk l t) s = saying (walk_said (text_walk l t)) s
turn_of (place_run q room) s = saying (run_said (call_of q (replicate room (pos 0)))) s
turn_of (poke p) s = saying (poke_said (pokes.poke p s)) (pokes.poke p s).sheet

-- The answers' lines, one after another.
abbrev pub bytes_of : List Said → List ℕ
bytes_of said = concat (map line_of said)
