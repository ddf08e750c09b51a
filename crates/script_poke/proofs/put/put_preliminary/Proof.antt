-- `script_poke::put::put_preliminary` meets its contract: the entry is there or not.
use borrow.Author.Rules.{rules}
use borrow.Author.Tests.{lt-ltb, le-ltb}
use Rattle.ints.proofs.Laws.{back}
use Rattle.script_poke.proofs.put.put_preliminary.Statement.{statement}
use Rattle.script_poke.proofs.put.put_preliminary.Tie as tie

returns : tie.Need-returns-then-i-ge-MAX_VERTICES
returns c = rw (le-ltb _ _ c.if-i-ge-MAX_VERTICES.true)

returns-2 : tie.Need-returns
returns-2 c = rw (c.with_drawing.ensures, lt-ltb _ _ c.if-i-ge-MAX_VERTICES.false) (simp (back c.ranges.x))

pub put_preliminary_spec : {M : Type 1} → statement M
put_preliminary_spec =
    tie.close
    (tie.spec returns (λ c. search rules) (λ c. search rules) (λ c κs. search rules) returns-2)
