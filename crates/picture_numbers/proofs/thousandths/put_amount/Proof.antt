-- `picture_numbers::thousandths::put_amount` meets its contract: the whole part, and the fraction after it.
use Prim.Native.Nat.{◌/◌, ◌%◌}
use borrow.Author.Rules.{rules}
use Rattle.text.specs.Decimal.{decimal}
use Rattle.text_write.proofs.Written.{and_then, room-first, room-then}
use Rattle.picture_numbers.specs.Thousandths.{fraction, amount}
use Rattle.picture_numbers.proofs.thousandths.put_amount.Statement.{statement}
use Rattle.picture_numbers.proofs.thousandths.put_amount.Tie as tie

put-decimal-requires : tie.Need-put_decimal-next-requires
unfolding amount
put-decimal-requires c κs =
    let s = c in
    let a = s.args in
    let n = a.n in room-first (decimal (n / 1000)) (fraction (n % 1000)) a.out.now a.at s.requires

put-fraction-requires : tie.Need-put_fraction-requires
unfolding amount
put-fraction-requires c κs =
    let c1 = c in
    let s = c1 in
    let a = s.args in
    let n = a.n in room-then (fraction (n % 1000)) c1.put_decimal-next.ensures s.requires

returns : tie.Need-returns
unfolding amount
returns c =
    and_then c.put_decimal-next.ensures c.put_fraction.ensures

pub put_amount_spec : {M : Type 1} → statement M
put_amount_spec =
    tie.close
    (tie.spec put-decimal-requires put-fraction-requires (λ c. search rules) returns)
