-- A turn lays one answer.
use mathlib.Core.Path.{refl}
use native.Mathlib.Omega.{arith}
use borrow.Author.Rules.{rules}
use borrow.Author.Tests.{not-true, not-false}
use Rattle.script_runs.specs.inner.Filled.{buffers}
use Rattle.script_commands.specs.inner.Held.{lent, command_in}
use Rattle.script_told.proofs.Enough.{few-answers}
use Rattle.script_run.proofs.Going.{below, stops, ends, again}
use Rattle.script_run.proofs.script.each_answer.Goals as goal

pub returns-in-None : goal.returns-in-None
returns-in-None c = stops c.loop-end.invariant.0 c.turn-one.ensures c.in-None.ensures refl

pub returns-then-not-one : goal.returns-then-not-one
returns-then-not-one c = ends c.loop-end.invariant.0 c.turn-one.ensures c.in-Some.ensures (not-true _ c.if-not-one.true)

pub overflow_add-n : goal.overflow_add-n
overflow_add-n c =
    let a = c.args in
    omega (
      arith,
      below c.loop-end.invariant.0.turning c.turn-one.ensures (not-false _ c.if-not-one.false),
      few-answers (command_in a.command (lent a.text.now (buffers a.old.now a.distances.now a.counts.now a.neighbours.now a.ratings.now))) a.sheet,
    )

pub loop-end-preserved : goal.loop-end-preserved
loop-end-preserved c =
    let i = c.loop-end.invariant in
    (again i.0 c.turn-one.ensures c.in-Some.ensures refl (not-false _ c.if-not-one.false), search rules)
