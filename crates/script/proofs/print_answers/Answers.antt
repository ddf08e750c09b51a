-- The next answer is written behind those before it.
use Rattle.std.proofs.Common.{rules, arith}
use Rattle.std.proofs.KnownBytes.{Appends-nil}
use borrow.Author.Tests.{not-false, not-true}
use Rattle.ints.specs.Lists.{concat}
use Rattle.script_runs.specs.inner.Filled.{buffers}
use Rattle.script_commands.specs.inner.Held.{lent, command_in}
use Rattle.script_told.proofs.Enough.{few-answers}
use Rattle.script_run.proofs.Going.{turning, below, next}
use Rattle.script.proofs.Written.{written, written-all}
use Rattle.script.proofs.print_answers.Goals as goal

pub loop-n-init : goal.loop-n-init
unfolding concat
loop-n-init g c =
    let a = c.args in
    (turning a.command (lent a.text.now (buffers a.old.now a.distances.now a.counts.now a.neighbours.now a.ratings.now)) a.sheet, c.requires.1, Appends-nil _)

pub returns-then-not-one-clause-answers : goal.returns-then-not-one-clause-answers
returns-then-not-one-clause-answers g c =
    written-all c.loop-n.invariant.0 c.turn-one.ensures _ _ _ c.loop-n.invariant.2 c.in_ok-write_all.ensures.bytes (not-true _ c.if-not-one.true)

pub overflow_add-n : goal.overflow_add-n
overflow_add-n g c =
    let a = c.args in
    omega (
      arith,
      below c.loop-n.invariant.0 c.turn-one.ensures (not-false _ c.if-not-one.false),
      few-answers (command_in a.command (lent a.text.now (buffers a.old.now a.distances.now a.counts.now a.neighbours.now a.ratings.now))) a.sheet,
    )

pub loop-n-preserved : goal.loop-n-preserved
loop-n-preserved g c = (
  next c.loop-n.invariant.0 c.turn-one.ensures (not-false _ c.if-not-one.false),
  search rules,
  written c.loop-n.invariant.0 c.turn-one.ensures _ _ _ c.loop-n.invariant.2 c.in_ok-write_all.ensures.bytes,
)
