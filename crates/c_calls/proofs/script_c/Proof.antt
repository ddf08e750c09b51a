-- `c_calls::script_c` meets its contract: the number is that of what the call answered.
use mathlib.Core.Path.{◌∙◌}
use borrow.Author.Rules.{rules}
use Rattle.ints.proofs.Laws.{back'}
use Rattle.script_told.proofs.Twice.{answers-few}
use Rattle.c_codes.proofs.CodeLaws.{codes, few}
use Rattle.c_calls.proofs.script_c.Statement.{statement}
use Rattle.c_calls.proofs.script_c.Tie as tie

code-requires : tie.Need-code-requires
code-requires c κs =
    let a = c.args in
    (search rules, few c.answers-answer.result (answers-few a.script.now a.out.now) c.answers-answer.ensures.answered)

returns : tie.Need-returns
returns c = codes c.answers-answer.ensures (back' c.code.result c.code.type_inv ∙ c.code.ensures)

pub script_c_spec : {M : Type 1} → statement M
script_c_spec = tie.close
    (tie.spec (λ c κs. search rules) code-requires (λ c. search rules) returns)
