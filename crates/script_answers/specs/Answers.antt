-- The answers to a script's commands, a line each with its LF, as lists of bytes.
use Rattle.std.specs.Prelude.{cond, List, [], ◌∷◌, ◌++◌, ℕ, length, ℤ}
use Rattle.text.specs.Bytes.{bytes}
use Rattle.text.specs.Decimal.{decimal, signed}
use Rattle.plan.specs.declared.walk.Walk.{Walk}
use Rattle.marks.specs.Marks.{WholeMark}
use Rattle.sheet.specs.declared.types.Stage.{Stage}
use Rattle.sheet.specs.declared.types.Stage.TheVariants.{Empty, Loaded, Drawn}
use Rattle.script_marks.specs.Marks.{mark_words}

-- What is answered to a command.
pub data Said : Type 0 where
  -- it is no command
  unknown : Said
  -- a refusal, by its number
  refused : ℕ → Said
  -- it was done, and there is nothing to say
  done : Said
  -- the sheet's stage
  stage : Stage → Said
  -- a report line, with its LF
  text : List ℕ → Said
  -- a mark
  mark : WholeMark → Said
  -- what a walk found
  walked : Walk → Said
  -- the positions of a run
  positions : List ℤ → Said

-- "empty", "loaded V E", "drawn V E P"
unfoldable pub stage_words : Stage → List ℕ
stage_words Empty = bytes "empty"
stage_words (Loaded v e) = bytes "loaded " ++ decimal v ++ bytes " " ++ decimal e
stage_words (Drawn v e p) = bytes "drawn " ++ decimal v ++ bytes " " ++ decimal e ++ bytes " " ++ decimal p

-- " x1 x2 .."
unfoldable pub position_words : List ℤ → List ℕ
position_words [] = []
position_words (x ∷ xs) = bytes " " ++ signed x ++ position_words xs

-- The line of an answer. A report line's length counts its LF, which ends the answer.
unfoldable pub line_of : Said → List ℕ
line_of unknown = bytes "unknown\n"
line_of (refused n) = bytes "refused " ++ decimal n ++ bytes "\n"
line_of done = bytes "ok\n"
line_of (stage s) = bytes "ok " ++ stage_words s ++ bytes "\n"
line_of (text l) = bytes "ok " ++ decimal (length l) ++ bytes " " ++ l
line_of (mark m) = bytes "ok " ++ mark_words m ++ bytes "\n"
line_of (walked w) = cond w.crossed (bytes "ok crossed ") (bytes "ok clear ") ++ decimal w.taken ++ bytes "\n"
line_of (positions xs) = bytes "ok" ++ position_words xs ++ bytes "\n"
