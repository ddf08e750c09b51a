-- The answers from the n-th on are still to be laid, and only commands that leave the sheet as it was have more than one.
use Rattle.std.proofs.Common.{◌≤◌, ◌-◌, length}
use Rattle.script_runs.specs.inner.Filled.{buffers}
use Rattle.script_commands.specs.inner.Held.{lent, command_in}
use Rattle.script_answers.specs.inner.Lengths.{max_answer}
use Rattle.script_told.specs.Turns.{turn_of}
use Rattle.script_run.proofs.Going.{Going}
use Rattle.script_run.proofs.script.each_answer.Given as goal

abbrev pub invariant-loop-end : goal.invariant-loop-end
invariant-loop-end l =
    let b = lent l.text (buffers l.old l.distances l.counts l.neighbours l.ratings) in
    Going l.command b (turn_of (command_in l.command b) l.initial.kept) l.write l.room l.initial.out l.at l.kept l.out l.to l.n
    × (max_answer ≤ length l.buffer)

abbrev pub decreases-loop-end : goal.decreases-loop-end
decreases-loop-end l =
    length (turn_of (command_in l.command (lent l.text (buffers l.old l.distances l.counts l.neighbours l.ratings))) l.initial.kept).said - l.n
