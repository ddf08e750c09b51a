-- What is cut to the buffers' lengths is answered as the whole is.
use Rattle.script_runs.specs.inner.Filled.{buffers}
use Rattle.script_commands.specs.Table.{command_of}
use Rattle.script_commands.specs.inner.Held.{lent}
use Rattle.script_run.proofs.Whole.{line-turned}
use Rattle.script_run.proofs.script.answer_line.Goals as goal

pub returns : goal.returns
returns c =
    let a = c.args in let k = c.command-said in
    line-turned a.sheet (command_of a.line.now) k.result (lent k.new.text (buffers k.new.old k.new.distances k.new.counts k.new.neighbours k.new.ratings)) k.ensures
    c.each_answer.ensures
