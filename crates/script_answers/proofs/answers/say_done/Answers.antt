use Rattle.script_answers.specs.Answers.{line_of}
use Rattle.script_answers.proofs.answers.say_done.Goals as goal

pub put_word-requires : goal.put_word-requires
unfolding line_of
put_word-requires c = c.requires

pub returns : goal.returns
unfolding line_of
returns c = c.put_word.ensures
