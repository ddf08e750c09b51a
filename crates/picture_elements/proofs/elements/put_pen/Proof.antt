-- `picture_elements::elements::put_pen` meets its contract: nothing with rating 1.
use native.Mathlib.Omega.{arith}
use borrow.Author.Rules.{rules}
use borrow.Author.Tests.{eq-eqb, ne_eqb}
use Rattle.text_write.proofs.Written.{wrote_none}
use Rattle.picture_elements.specs.Elements.{pen_of}
use Rattle.picture_elements.proofs.Limits.{pen-thin}
use Rattle.picture_elements.proofs.elements.put_pen.Statement.{statement}
use Rattle.picture_elements.proofs.elements.put_pen.Tie as tie

returns : tie.Need-returns-then-rating-eq1
unfolding pen_of
returns c = rw (eq-eqb _ _ c.if-rating-eq1.true) (wrote_none c.args.out.now c.args.at)

mul-pen : tie.Need-overflow_mul-pen
mul-pen c =
    let s = c in
    omega (arith, pen-thin s.args.measure s.args.rating s.requires.0)

put-measured-requires : tie.Need-put_measured-requires
unfolding pen_of
put-measured-requires c κs = rw (ne_eqb _ _ c.if-rating-eq1.false) at c.requires.1

returns-2 : tie.Need-returns
unfolding pen_of
returns-2 c = rw (ne_eqb _ _ c.if-rating-eq1.false) c.put_measured.ensures

pub put_pen_spec : {M : Type 1} → statement M
put_pen_spec = tie.close (tie.spec returns (λ c. search rules) mul-pen put-measured-requires (λ c. search rules) returns-2)
