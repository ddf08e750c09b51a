-- How long answers are.
use Rattle.std.specs.Prelude.{ℕ, ◌^◌, ◌≤◌, List, length}
use Rattle.text_write.specs.inner.Written.{Wrote}
use Rattle.sheet.specs.declared.types.Stage.{Stage}
use Rattle.script_answers.specs.Answers.{stage_words}

-- No answer is longer.
abbrev pub max_answer : ℕ
max_answer = 1500

-- No box of a run that is placed stands further from 0.
abbrev pub max_position : ℕ
max_position = 2 ^ 50

-- No stage has more words than three numbers of 64 bits ask for.
abbrev pub max_stage : ℕ
max_stage = 68

pub record WroteStage (s : Stage) (o : List ℕ) (at to : ℕ) (out : List ℕ) : Type 0 where
  pub words : Wrote (stage_words s) o at to out
  pub short : length (stage_words s) ≤ max_stage
