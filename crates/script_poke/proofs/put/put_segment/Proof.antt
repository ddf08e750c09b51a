-- `script_poke::put::put_segment` meets its contract: the entry is there or not.
use borrow.Author.Rules.{rules}
use borrow.Author.Tests.{lt-ltb, le-ltb}
use Rattle.script_poke.proofs.put.put_segment.Statement.{statement}
use Rattle.script_poke.proofs.put.put_segment.Tie as tie

returns : tie.Need-returns-then-i-ge-MAX_SEGMENTS
returns c = rw (le-ltb _ _ c.if-i-ge-MAX_SEGMENTS.true)

returns-2 : tie.Need-returns
returns-2 c = rw (c.with_plan.ensures, lt-ltb _ _ c.if-i-ge-MAX_SEGMENTS.false)

pub put_segment_spec : {M : Type 1} → statement M
put_segment_spec =
    tie.close
    (tie.spec returns (λ c. search rules) (λ c. search rules) (λ c. search rules) (λ c. search rules) (λ c. search rules) (λ c. search rules)
    (λ c κs. search rules) returns-2)
