-- `c_calls::reread_c` meets its contract: the number is that of what the call answered.
use mathlib.Core.Path.{◌∙◌}
use native.Mathlib.Omega.{arith}
use borrow.Author.Rules.{rules}
use Rattle.ints.proofs.Laws.{back'}
use Rattle.text_write.proofs.AgainLaws.{written-few}
use Rattle.c_codes.proofs.CodeLaws.{again-codes, few}
use Rattle.c_calls.proofs.reread_c.Statement.{statement}
use Rattle.c_calls.proofs.reread_c.Tie as tie

again-code-requires : tie.Need-code-requires
again-code-requires c κs =
    let a = c.args in
    (search rules, few c.rewrite-answer.result (λ n h. omega (arith, written-few a.text.now a.out.now n h)) c.rewrite-answer.ensures.answer)

returns : tie.Need-returns
returns c = again-codes c.rewrite-answer.ensures (back' c.code.result c.code.type_inv ∙ c.code.ensures)

pub reread_c_spec : {M : Type 1} → statement M
reread_c_spec = tie.close
    (tie.spec (λ c κs. search rules) again-code-requires (λ c. search rules) returns)
