-- What a line of a script says.
use Rattle.std.specs.Prelude.{List, ℕ}
use Rattle.run.specs.Call.{Request}
use Rattle.script_commands.specs.declared.types.Poke.{Poke}

pub data Command : Type 0 where
  -- An empty line or a remark, which has no answer.
  skip : Command
  -- "a line in any other form"
  unknown : Command
  -- `load S strict TEXT`: the bytes that TEXT stands for.
  load : List ℕ → Command
  -- `load S tangled TEXT`
  load_tangled : List ℕ → Command
  draw : Command
  clear : Command
  stage : Command
  -- `line S n [BUF]`: the number of the line, and the length of the buffer.
  line : ℕ → ℕ → Command
  lines : Command
  -- `text S n [BUF]`: a line of the plan text as it was read.
  text_line : ℕ → ℕ → Command
  texts : Command
  mark : ℕ → Command
  marks : Command
  -- `walk l TEXT`: a level, and the bytes that TEXT stands for.
  walk : ℕ → List ℕ → Command
  -- `placerun ..`: a request for place-run, and the length of the answer buffer.
  place_run : Request → ℕ → Command
  poke : Poke → Command
