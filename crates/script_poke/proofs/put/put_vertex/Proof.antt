-- `script_poke::put::put_vertex` meets its contract: the entry is there or not.
use borrow.Author.Rules.{rules}
use borrow.Author.Tests.{lt-ltb, le-ltb}
use Rattle.script_poke.proofs.put.put_vertex.Statement.{statement}
use Rattle.script_poke.proofs.put.put_vertex.Tie as tie

returns : tie.Need-returns-then-i-ge-MAX_VERTICES
returns c = rw (le-ltb _ _ c.if-i-ge-MAX_VERTICES.true)

returns-2 : tie.Need-returns
returns-2 c = rw (c.with_plan.ensures, lt-ltb _ _ c.if-i-ge-MAX_VERTICES.false)

pub put_vertex_spec : {M : Type 1} → statement M
put_vertex_spec =
    tie.close
    (tie.spec returns (λ c. search rules) (λ c. search rules) (λ c. search rules) (λ c κs. search rules) returns-2)
