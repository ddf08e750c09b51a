-- What is cut to the buffers' lengths is answered as the whole is.
use Rattle.std.proofs.Common.{◌≡◌, IfOk, OnOk, subst}
use Rattle.std.specs.Io.KnownBytes.{Appends}
use Rattle.script_runs.specs.inner.Filled.{buffers}
use Rattle.script_commands.specs.Table.{command_of}
use Rattle.script_commands.specs.inner.Held.{lent}
use Rattle.script_told.specs.Turns.{Turn, bytes_of}
use Rattle.script_run.proofs.Whole.{rooms-turn}
use Rattle.script.proofs.answer_line.Goals as goal

pub returns-clause-sheet : goal.returns-clause-sheet
returns-clause-sheet g c =
    let k = c.command-said in
    let held = lent k.new.text (buffers k.new.old k.new.distances k.new.counts k.new.neighbours k.new.ratings) in
    subst (λ (t : Turn). IfOk c.print_answers.result (λ s. s ≡ t.sheet)) (rooms-turn c.args.sheet (command_of c.args.line.now) k.result held k.ensures)
    c.print_answers.ensures.sheet

pub returns-clause-answers : goal.returns-clause-answers
returns-clause-answers g c =
    let k = c.command-said in
    let held = lent k.new.text (buffers k.new.old k.new.distances k.new.counts k.new.neighbours k.new.ratings) in
    subst
    (λ (t : Turn). OnOk c.print_answers.result (Appends (g.W.Write.contents c.args.output.now) (g.W.Write.contents c.print_answers.new.output) (bytes_of t.said)))
    (rooms-turn c.args.sheet (command_of c.args.line.now) k.result held k.ensures) c.print_answers.ensures.answers
