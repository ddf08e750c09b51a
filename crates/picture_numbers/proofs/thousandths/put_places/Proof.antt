-- `picture_numbers::thousandths::put_places` meets its contract: as many digits as there are up to the last that is not 0.
use mathlib.Core.List.{◌++◌}
use Prim.Native.Nat.{◌/◌, ◌%◌}
use borrow.Author.Rules.{rules}
use Rattle.text.specs.Decimal.{decimal}
use Rattle.text_write.proofs.Written.{and_then, room-first, room-then}
use Rattle.picture_numbers.proofs.ByCase.{one_place, two-places, three-places}
use Rattle.picture_numbers.proofs.thousandths.put_places.Statement.{statement}
use Rattle.picture_numbers.proofs.thousandths.put_places.Tie as tie

put-decimal-requires : tie.Need-put_decimal-requires
put-decimal-requires c κs =
    rw (one_place c.args.f c.if-f-eq0.true) at c.requires

returns : tie.Need-returns-then-f-eq0
returns c =
    let c1 = c in
    let c2 = c1 in
    let s = c2 in
    let a = s.args in
    rw (one_place a.f c2.if-f-eq0.true) c1.put_decimal.ensures

put-decimal-requires-2 : tie.Need-put_decimal-two-requires
put-decimal-requires-2 c κs =
    let c1 = c in
    let c2 = c1 in
    let s = c2 in
    let a = s.args in
    let f = a.f in
    room-first (decimal (f / 100)) (decimal (f / 10 % 10)) a.out.now a.at (rw (two-places f c2.if-f-eq0.false c1.if-f-eq0-2.true) at s.requires)

put-decimal-requires-3 : tie.Need-put_decimal-requires-then-f-eq0-2
put-decimal-requires-3 c κs =
    let c1 = c in
    let c2 = c1 in
    let c3 = c2 in
    let s = c3 in
    let a = s.args in
    let f = a.f in
    room-then (decimal (f / 10 % 10)) c1.put_decimal-two.ensures (rw (two-places f c3.if-f-eq0.false c2.if-f-eq0-2.true) at s.requires)

returns-2 : tie.Need-returns-then-f-eq0-2
returns-2 c =
    let c1 = c in
    let c2 = c1 in
    let c3 = c2 in
    let c4 = c3 in
    let s = c4 in
    let a = s.args in
    rw (two-places a.f c4.if-f-eq0.false c3.if-f-eq0-2.true) (and_then c2.put_decimal-two.ensures c1.put_decimal-then-f-eq0-2.ensures)

put-decimal-requires-4 : tie.Need-put_decimal-two-requires-2
put-decimal-requires-4 c κs =
    let c1 = c in
    let c2 = c1 in
    let s = c2 in
    let a = s.args in
    let f = a.f in
    let r = rw (three-places f c2.if-f-eq0.false c1.if-f-eq0-2.false) at s.requires in
    room-first (decimal (f / 100)) (decimal (f / 10 % 10)) a.out.now a.at
    (room-first (decimal (f / 100) ++ decimal (f / 10 % 10)) (decimal (f % 10)) a.out.now a.at r)

put-decimal-requires-5 : tie.Need-put_decimal-three-requires
put-decimal-requires-5 c κs =
    let c1 = c in
    let c2 = c1 in
    let c3 = c2 in
    let s = c3 in
    let a = s.args in
    let f = a.f in
    let r = rw (three-places f c3.if-f-eq0.false c2.if-f-eq0-2.false) at s.requires in
    room-then (decimal (f / 10 % 10)) c1.put_decimal-two-2.ensures
    (room-first (decimal (f / 100) ++ decimal (f / 10 % 10)) (decimal (f % 10)) a.out.now a.at r)

put-decimal-requires-6 : tie.Need-put_decimal-requires-2
put-decimal-requires-6 c κs =
    let c1 = c in
    let c2 = c1 in
    let c3 = c2 in
    let c4 = c3 in
    let s = c4 in
    let a = s.args in
    let f = a.f in
    let r = rw (three-places f c4.if-f-eq0.false c3.if-f-eq0-2.false) at s.requires in
    room-then (decimal (f % 10)) (and_then c2.put_decimal-two-2.ensures c1.put_decimal-three.ensures) r

returns-3 : tie.Need-returns
returns-3 c =
    let c1 = c in
    let c2 = c1 in
    let c3 = c2 in
    let c4 = c3 in
    let c5 = c4 in
    let s = c5 in
    let a = s.args in
    rw (three-places a.f c5.if-f-eq0.false c4.if-f-eq0-2.false) (and_then (and_then c3.put_decimal-two-2.ensures c2.put_decimal-three.ensures) c1.put_decimal-2.ensures)

pub put_places_spec : {M : Type 1} → statement M
put_places_spec =
    tie.close
    (tie.spec put-decimal-requires (λ c. search rules) returns put-decimal-requires-2 put-decimal-requires-3
    (λ c. search rules) returns-2 put-decimal-requires-4 put-decimal-requires-5 put-decimal-requires-6 (λ c. search rules)
    returns-3)
