-- `script_poke::poke::put_spacing` meets its contract: one field is another.
use borrow.Author.Rules.{rules}
use Rattle.script_poke.proofs.poke.put_spacing.Statement.{statement}
use Rattle.script_poke.proofs.poke.put_spacing.Tie as tie

returns : tie.Need-returns
returns c = rw (c.with_plan.ensures, c.in_32.ensures)

pub put_spacing_spec : {M : Type 1} → statement M
put_spacing_spec =
    tie.close
    (tie.spec (λ c κs. search rules) (λ c κs. search rules) returns)
