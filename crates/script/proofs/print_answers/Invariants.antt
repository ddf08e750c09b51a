-- At each turn of the loop answer n is next, those before it are written, and only commands that leave the sheet as it was have more than
-- one.
use Rattle.std.proofs.Common.{◌-◌, ◌≤◌, length, take}
use Rattle.std.specs.Io.KnownBytes.{Appends}
use Rattle.script_runs.specs.inner.Filled.{buffers}
use Rattle.script_commands.specs.inner.Held.{lent, command_in}
use Rattle.script_answers.specs.inner.Lengths.{max_answer}
use Rattle.script_told.specs.Turns.{turn_of, bytes_of}
use Rattle.script_run.proofs.Going.{Turning}
use Rattle.script.proofs.print_answers.Given as goal

abbrev pub invariant-loop-n : goal.invariant-loop-n
invariant-loop-n g l =
    let held = lent l.text (buffers l.old l.distances l.counts l.neighbours l.ratings) in
    let turned = turn_of (command_in l.command held) l.initial.kept in
    Turning l.command held turned l.kept l.n
    × (max_answer ≤ length l.buffer)
    × Appends (g.W.Write.contents l.initial.output) (g.W.Write.contents l.output) (bytes_of (take l.n turned.said))

abbrev pub decreases-loop-n : goal.decreases-loop-n
decreases-loop-n g l =
    length (turn_of (command_in l.command (lent l.text (buffers l.old l.distances l.counts l.neighbours l.ratings))) l.initial.kept).said - l.n
