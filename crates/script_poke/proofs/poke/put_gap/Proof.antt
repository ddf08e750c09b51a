-- `script_poke::poke::put_gap` meets its contract: one field is another.
use borrow.Author.Rules.{rules}
use Rattle.script_poke.proofs.poke.put_gap.Statement.{statement}
use Rattle.script_poke.proofs.poke.put_gap.Tie as tie

returns : tie.Need-returns
returns c = rw (c.with_plan.ensures, c.in_32.ensures)

pub put_gap_spec : {M : Type 1} → statement M
put_gap_spec =
    tie.close
    (tie.spec (λ c κs. search rules) (λ c κs. search rules) returns)
