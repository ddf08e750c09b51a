-- `script_poke::put::put_remembered` meets its contract: the entry is there or not.
use borrow.Author.Rules.{rules}
use borrow.Author.Tests.{lt-ltb, le-ltb}
use Rattle.script_poke.proofs.put.put_remembered.Statement.{statement}
use Rattle.script_poke.proofs.put.put_remembered.Tie as tie

returns : tie.Need-returns-then-i-ge-MAX_VERTICES
returns c = rw (le-ltb _ _ c.if-i-ge-MAX_VERTICES.true)

returns-2 : tie.Need-returns
returns-2 c = rw (c.with_remembered.ensures, lt-ltb _ _ c.if-i-ge-MAX_VERTICES.false)

pub put_remembered_spec : {M : Type 1} → statement M
put_remembered_spec =
    tie.close
    (tie.spec returns (λ c. search rules) (λ c. search rules) (λ c κs. search rules) returns-2)
