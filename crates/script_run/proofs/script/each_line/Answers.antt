-- A turn lays what one line answers.
use Rattle.std.proofs.Common.{rules, ◌≡◌, refl, None, Some}
use Rattle.script_run.proofs.Lines.{starts, stops, ends, again}
use Rattle.script_run.proofs.script.each_line.Goals as goal

pub loop-at-init : goal.loop-at-init
loop-at-init c = starts c.args.script.now c.empty-sheet.ensures c.requires

pub returns-in_err-at : goal.returns-in_err-at
returns-in_err-at c =
    let e : c.from_residual.result ≡ None = search rules in
    let n : c.answer_line-turned.result.laid ≡ None = search rules in
    rw e (stops c.loop-at.invariant c.end_of-end.ensures (rw n at c.answer_line-turned.ensures) refl)

pub returns-then-end-script : goal.returns-then-end-script
returns-then-end-script c =
    let n : c.answer_line-turned.result.laid ≡ Some c.in_ok-at.at = search rules in
    ends c.loop-at.invariant c.end_of-end.ensures (rw n at c.answer_line-turned.ensures) c.if-end-script.true

pub loop-at-preserved : goal.loop-at-preserved
loop-at-preserved c =
    let n : c.answer_line-turned.result.laid ≡ Some c.in_ok-at.at = search rules in
    again c.loop-at.invariant c.end_of-end.ensures (rw n at c.answer_line-turned.ensures) refl c.if-end-script.false
