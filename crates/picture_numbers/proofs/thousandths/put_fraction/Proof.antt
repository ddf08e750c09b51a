-- `picture_numbers::thousandths::put_fraction` meets its contract: nothing, or the point and the digits.
use borrow.Author.Rules.{rules}
use Rattle.text.specs.Bytes.{bytes}
use Rattle.text_write.proofs.Written.{wrote_none, and_then, room-first, room-then}
use Rattle.picture_numbers.specs.Thousandths.{places}
use Rattle.picture_numbers.proofs.ByCase.{no_fraction, some-fraction}
use Rattle.picture_numbers.proofs.thousandths.put_fraction.Statement.{statement}
use Rattle.picture_numbers.proofs.thousandths.put_fraction.Tie as tie

returns : tie.Need-returns-then-f-eq0
returns c =
    rw (no_fraction c.args.f c.if-f-eq0.true) (wrote_none c.args.out.now c.args.at)

put-word-requires : tie.Need-put_word-first-requires
put-word-requires c κs =
    let c1 = c in
    let s = c1 in
    let a = s.args in
    let f = a.f in
    room-first (bytes ".") (places f) a.out.now a.at (rw (some-fraction f c1.if-f-eq0.false) at s.requires)

put-places-requires : tie.Need-put_places-requires
put-places-requires c κs =
    let c1 = c in
    let c2 = c1 in
    let s = c2 in
    let a = s.args in
    let f = a.f in
    room-then (places f) c1.put_word-first.ensures (rw (some-fraction f c2.if-f-eq0.false) at s.requires)

returns-2 : tie.Need-returns
returns-2 c =
    let c1 = c in
    let c2 = c1 in
    let c3 = c2 in
    let s = c3 in
    let a = s.args in
    rw (some-fraction a.f c3.if-f-eq0.false) (and_then c2.put_word-first.ensures c1.put_places.ensures)

pub put_fraction_spec : {M : Type 1} → statement M
put_fraction_spec =
    tie.close
    (tie.spec returns put-word-requires put-places-requires (λ c. search rules) returns-2)
