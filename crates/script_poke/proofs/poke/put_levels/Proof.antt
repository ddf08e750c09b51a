-- `script_poke::poke::put_levels` meets its contract: one field is another.
use borrow.Author.Rules.{rules}
use Rattle.script_poke.proofs.poke.put_levels.Statement.{statement}
use Rattle.script_poke.proofs.poke.put_levels.Tie as tie

returns : tie.Need-returns
returns c = rw (c.with_plan.ensures, c.in_32.ensures)

pub put_levels_spec : {M : Type 1} → statement M
put_levels_spec =
    tie.close
    (tie.spec (λ c κs. search rules) (λ c κs. search rules) returns)
