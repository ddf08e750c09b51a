use Rattle.text_write.proofs.Written.{and_then}
use Rattle.script_answers.specs.Answers.{line_of}
use Rattle.script_answers.proofs.answers.say_stage.Goals as goal

pub returns : goal.returns
unfolding line_of
returns c =
    and_then (and_then c.put_word-words.ensures
    c.put_stage-end.ensures.words)
    c.put_word.ensures
