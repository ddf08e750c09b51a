-- `script_poke::put::put_pass` meets its contract: the entry is there or not.
use borrow.Author.Rules.{rules}
use borrow.Author.Tests.{lt-ltb, le-ltb}
use Rattle.script_poke.proofs.put.put_pass.Statement.{statement}
use Rattle.script_poke.proofs.put.put_pass.Tie as tie

returns : tie.Need-returns-then-i-ge-MAX_LISTED
returns c = rw (le-ltb _ _ c.if-i-ge-MAX_LISTED.true)

returns-2 : tie.Need-returns
returns-2 c = rw (c.with_drawing.ensures, lt-ltb _ _ c.if-i-ge-MAX_LISTED.false)

pub put_pass_spec : {M : Type 1} → statement M
put_pass_spec =
    tie.close
    (tie.spec returns (λ c. search rules) (λ c. search rules) (λ c κs. search rules) returns-2)
