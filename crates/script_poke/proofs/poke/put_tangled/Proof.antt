-- `script_poke::poke::put_tangled` meets its contract: the way of loading is another.
use borrow.Author.Rules.{rules}
use Rattle.script_poke.proofs.poke.put_tangled.Statement.{statement}
use Rattle.script_poke.proofs.poke.put_tangled.Tie as tie

returns : tie.Need-returns
returns c = rw c.with_tangled.ensures

pub put_tangled_spec : {M : Type 1} → statement M
put_tangled_spec =
    tie.close
    (tie.spec (λ c κs. search rules) returns)
