-- `c_calls::picture_c` meets its contract: the number is that of what the call answered.
use mathlib.Core.Path.{◌∙◌}
use native.Mathlib.Omega.{arith}
use borrow.Author.Rules.{rules}
use Rattle.ints.proofs.Laws.{back'}
use Rattle.picture_text.proofs.PrintLaws.{picture-few}
use Rattle.c_codes.proofs.CodeLaws.{picture-codes, few-drawn}
use Rattle.c_calls.proofs.picture_c.Statement.{statement}
use Rattle.c_calls.proofs.picture_c.Tie as tie

picture-code-requires : tie.Need-picture_code-requires
picture-code-requires c κs =
    let a = c.args in
    (search rules, few-drawn c.picture_text-answer.result (λ n h. omega (arith, picture-few a.text.now a.names.now a.out.now n h)) c.picture_text-answer.ensures.answer)

returns : tie.Need-returns
returns c = picture-codes c.picture_text-answer.ensures (back' c.picture_code.result c.picture_code.type_inv ∙ c.picture_code.ensures)

pub picture_c_spec : {M : Type 1} → statement M
picture_c_spec = tie.close
    (tie.spec (λ c κs. search rules) picture-code-requires (λ c. search rules) returns)
