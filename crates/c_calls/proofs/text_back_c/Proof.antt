-- `c_calls::text_back_c` meets its contract: the number is that of what the call answered.
use mathlib.Core.Path.{◌∙◌}
use native.Mathlib.Omega.{arith}
use borrow.Author.Rules.{rules}
use Rattle.ints.proofs.Laws.{back'}
use Rattle.sheet_text.proofs.BackLaws.{back-few}
use Rattle.c_codes.proofs.CodeLaws.{codes, few}
use Rattle.c_calls.proofs.text_back_c.Statement.{statement}
use Rattle.c_calls.proofs.text_back_c.Tie as tie

code-requires : tie.Need-code-requires
code-requires c κs =
    let a = c.args in
    (search rules, few c.text_back-answer.result (λ n h. omega (arith, back-few a.text.now a.out.now n h)) c.text_back-answer.ensures.answered)

returns : tie.Need-returns
returns c = codes c.text_back-answer.ensures (back' c.code.result c.code.type_inv ∙ c.code.ensures)

pub text_back_c_spec : {M : Type 1} → statement M
text_back_c_spec = tie.close
    (tie.spec (λ c κs. search rules) code-requires (λ c. search rules) returns)
