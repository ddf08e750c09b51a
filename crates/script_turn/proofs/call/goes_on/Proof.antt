-- `script_turn::call::goes_on` meets its contract: by the two tests.
use borrow.Author.Rules.{rules}
use Rattle.script_turn.proofs.call.goes_on.Statement.{statement}
use Rattle.script_turn.proofs.call.goes_on.Tie as tie

returns-2 : tie.Need-returns
returns-2 c = rw c.if-refused.false

pub goes_on_spec : {M : Type 1} → statement M
goes_on_spec = tie.close
    (tie.spec (λ c. search rules) (λ c. search rules) returns-2)
