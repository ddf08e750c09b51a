-- `c_calls::report_tangled_c` meets its contract: the number is that of what the call answered.
use mathlib.Core.Path.{◌∙◌}
use native.Mathlib.Omega.{arith}
use borrow.Author.Rules.{rules}
use Rattle.ints.proofs.Laws.{back'}
use Rattle.text_report.proofs.Texts.{tangled-few}
use Rattle.c_codes.proofs.CodeLaws.{codes, few}
use Rattle.c_calls.proofs.report_tangled_c.Statement.{statement}
use Rattle.c_calls.proofs.report_tangled_c.Tie as tie

code-requires : tie.Need-code-requires
code-requires c κs =
    let a = c.args in
    (search rules, few c.report_tangled_text-answer.result (λ n h. omega (arith, tangled-few a.text.now a.out.now n h)) c.report_tangled_text-answer.ensures.answered)

returns : tie.Need-returns
returns c = codes c.report_tangled_text-answer.ensures (back' c.code.result c.code.type_inv ∙ c.code.ensures)

pub report_tangled_c_spec : {M : Type 1} → statement M
report_tangled_c_spec = tie.close
    (tie.spec (λ c κs. search rules) code-requires (λ c. search rules) returns)
