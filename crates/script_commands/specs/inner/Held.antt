-- What the program's command says, with what is lent beside it.
use Rattle.std.specs.Prelude.{◌≡◌, Bool, true, false, List, ℕ, ◌≤◌, length, take}
use Rattle.script_runs.specs.inner.Filled.{Buffers, request_with, Within, shortened as shortened_run}
use Rattle.script_commands.specs.declared.types.Command.{Command as Found}
use Rattle.script_commands.specs.declared.types.Command.TheVariants.{Skip, Unknown, Load, LoadTangled, Draw, Clear, Stage, Line, Lines, TextLine, Texts, Mark, Marks, Walk, PlaceRun, Poke}
use Rattle.script_commands.specs.Commands.{Command, skip, unknown, load, load_tangled, draw, clear, stage, line, lines, text_line, texts, mark, marks, walk, place_run, poke}

-- A buffer for the text of a load or a walk, and those for the lists of a run.
pub record Lent : Type 0 where
  pub text : List ℕ
  pub run : Buffers

abbrev pub lent : List ℕ → Buffers → Lent
lent t b = record { text = t; run = b }

abbrev pub command_in : Found → Lent → Command
command_in Skip b = skip
command_in Unknown b = unknown
command_in (Load n) b = load (take n b.text)
command_in (LoadTangled n) b = load_tangled (take n b.text)
command_in Draw b = draw
command_in Clear b = clear
command_in Stage b = stage
command_in (Line n room) b = line n room
command_in Lines b = lines
command_in (TextLine n room) b = text_line n room
command_in Texts b = texts
command_in (Mark n) b = mark n
command_in Marks b = marks
command_in (Walk l n) b = walk l (take n b.text)
command_in (PlaceRun q) b = place_run (request_with q b.run) q.room
command_in (Poke p) b = poke p

-- So much of a command as what is lent has room for.
abbrev pub shortened : Lent → Command → Command
shortened b skip = skip
shortened b unknown = unknown
shortened b (load text) = load (take (length b.text) text)
shortened b (load_tangled text) = load_tangled (take (length b.text) text)
shortened b draw = draw
shortened b clear = clear
shortened b stage = stage
shortened b (line n room) = line n room
shortened b lines = lines
shortened b (text_line n room) = text_line n room
shortened b texts = texts
shortened b (mark n) = mark n
shortened b marks = marks
shortened b (walk l text) = walk l (take (length b.text) text)
shortened b (place_run q room) = place_run (shortened_run b.run q) room
shortened b (poke p) = poke p

-- What a command has in the buffers does not go beyond them.
abbrev pub Inside : Lent → Found → Type 0
Inside b Skip = Unit {0}
Inside b Unknown = Unit {0}
Inside b (Load n) = n ≤ length b.text
Inside b (LoadTangled n) = n ≤ length b.text
Inside b Draw = Unit {0}
Inside b Clear = Unit {0}
Inside b Stage = Unit {0}
Inside b (Line n room) = Unit {0}
Inside b Lines = Unit {0}
Inside b (TextLine n room) = Unit {0}
Inside b Texts = Unit {0}
Inside b (Mark n) = Unit {0}
Inside b Marks = Unit {0}
Inside b (Walk l n) = n ≤ length b.text
Inside b (PlaceRun q) = Within b.run q
Inside b (Poke p) = Unit {0}

-- The program's command is what c says, its text and its lists cut to the room for them. `before` are the buffers as they were
-- lent, `after` as they are given back.
pub record Commands (c : Command) (before : Lent) (r : Found) (after : Lent) : Type 0 where
  pub says : command_in r after ≡ shortened before c
  pub inside : Inside before r

-- The same of a command that has nothing in the buffers.
abbrev pub is_bare : Found → Bool
is_bare Skip = true
is_bare Unknown = true
is_bare (Load n) = false
is_bare (LoadTangled n) = false
is_bare Draw = true
is_bare Clear = true
is_bare Stage = true
is_bare (Line n room) = true
is_bare Lines = true
is_bare (TextLine n room) = true
is_bare Texts = true
is_bare (Mark n) = true
is_bare Marks = true
is_bare (Walk l n) = false
is_bare (PlaceRun q) = false
is_bare (Poke p) = true

pub record Bare (c : Command) (r : Found) : Type 0 where
  pub says : (b : Lent) → command_in r b ≡ c
  pub bare : is_bare r ≡ true
