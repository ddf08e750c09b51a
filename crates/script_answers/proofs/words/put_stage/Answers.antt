use Rattle.sheet.specs.declared.types.Stage.TheVariants.{Empty}
use Rattle.script_answers.specs.Answers.{stage_words}
use Rattle.script_answers.proofs.Lengths.{stage-short}
use Rattle.script_answers.proofs.words.put_stage.Goals as goal

pub returns-in-Empty : goal.returns-in-Empty
unfolding stage_words
returns-in-Empty c = rw c.in-Empty.is (record { words = c.put_word.ensures; short = stage-short Empty tt })
