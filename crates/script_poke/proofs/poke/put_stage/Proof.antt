-- `script_poke::poke::put_stage` meets its contract: the stage is another.
use borrow.Author.Rules.{rules}
use Rattle.script_poke.proofs.poke.put_stage.Statement.{statement}
use Rattle.script_poke.proofs.poke.put_stage.Tie as tie

returns : tie.Need-returns
returns c = rw c.with_stage.ensures

pub put_stage_spec : {M : Type 1} → statement M
put_stage_spec =
    tie.close
    (tie.spec (λ c κs. search rules) returns)
