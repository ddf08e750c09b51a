-- `script_turn::call::ask` meets its contract: what is lent is as the definition lends it.
use mathlib.Core.Path.{sym}
use native.Mathlib.Omega.{arith}
use borrow.Author.Rules.{rules}
use Rattle.script_commands.specs.Table.{long_enough}
use Rattle.script_turn.proofs.CallLaws.{zeros-cut, tells}
use Rattle.script_turn.proofs.call.ask.Statement.{statement}
use Rattle.script_turn.proofs.call.ask.Tie as tie

slice-aggregate-answer-call : tie.Need-slice_bounds-answer_call-end
slice-aggregate-answer-call c = sym (zeros-cut c.args.room long_enough c.requires.0)

answer-call-requires : tie.Need-answer_call-requires
answer-call-requires c κs =
    let s = c in
    record { line = omega (arith, zeros-cut s.args.room long_enough s.requires.0, s.requires.0); answer = omega (arith, s.requires.1) }

returns : tie.Need-returns
returns c =
    let s = c in let a = s.args in
    tells a.call a.text.now a.room long_enough a.sheet s.requires.0 c.answer_call.ensures

pub ask_spec : {M : Type 1} → statement M
ask_spec =
    tie.close
    (tie.spec (λ c. search rules) slice-aggregate-answer-call (λ c. search rules) (λ c. search rules) answer-call-requires
    (λ c. search rules) returns)
