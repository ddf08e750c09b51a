-- `script_poke::put::put_listed` meets its contract: the box is there or not.
use borrow.Author.Rules.{rules}
use Rattle.ints.proofs.Laws.{back}
use Rattle.script_poke.proofs.BoxLaws.{not-placed, placed}
use Rattle.script_poke.proofs.put.put_listed.Statement.{statement}
use Rattle.script_poke.proofs.put.put_listed.Tie as tie

returns : tie.Need-returns-then-at-ge-MAX_LISTED
returns c =
    let a = c.args in
    rw (not-placed a.sheet.drawing.counts a.q a.b c.place_of-at.result c.place_of-at.ensures c.if-at-ge-MAX_LISTED.true)

returns-2 : tie.Need-returns
returns-2 c =
    let a = c.args in
    let p = placed a.sheet.drawing.counts a.q a.b c.place_of-at.result c.place_of-at.ensures
    c.if-at-ge-MAX_LISTED.false in
    rw (c.with_drawing.ensures, p.0, p.1) (simp (back c.ranges.x))

pub put_listed_spec : {M : Type 1} → statement M
put_listed_spec =
    tie.close
    (tie.spec (λ c κs. search rules) returns (λ c. search rules) (λ c. search rules) (λ c. search rules) (λ c. search rules) (λ c κs. search rules)
    returns-2)
