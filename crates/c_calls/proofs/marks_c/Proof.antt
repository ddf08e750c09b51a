-- `c_calls::marks_c` meets its contract: the number is that of what the call answered.
use mathlib.Core.Path.{◌∙◌}
use native.Mathlib.Omega.{arith}
use borrow.Author.Rules.{rules}
use Rattle.ints.proofs.Laws.{back'}
use Rattle.text_marks.proofs.Texts.{marks-few}
use Rattle.c_codes.proofs.CodeLaws.{codes, few}
use Rattle.c_calls.proofs.marks_c.Statement.{statement}
use Rattle.c_calls.proofs.marks_c.Tie as tie

code-requires : tie.Need-code-requires
code-requires c κs =
    let a = c.args in
    (search rules, few c.marks_text-answer.result (λ n h. omega (arith, marks-few a.text.now a.out.now n h)) c.marks_text-answer.ensures.answered)

returns : tie.Need-returns
returns c = codes c.marks_text-answer.ensures (back' c.code.result c.code.type_inv ∙ c.code.ensures)

pub marks_c_spec : {M : Type 1} → statement M
marks_c_spec = tie.close
    (tie.spec (λ c κs. search rules) code-requires (λ c. search rules) returns)
