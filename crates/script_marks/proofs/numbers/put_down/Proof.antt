-- `script_marks::numbers::put_down` meets its contract: the decimal of the whole part.
use Rattle.std.proofs.Common.{rules}
use Rattle.script_marks.proofs.numbers.put_down.Statement.{statement}
use Rattle.script_marks.proofs.numbers.put_down.Tie as tie

put-decimal-requires : tie.Need-put_decimal-requires
put-decimal-requires c κs = rw c.whole.ensures c.requires

returns : tie.Need-returns
returns c = rw c.whole.ensures at c.put_decimal.ensures

pub put_down_spec : {M : Type 1} → statement M
put_down_spec =
    tie.close
    (tie.spec (λ c κs. search rules) put-decimal-requires (λ c. search rules) returns)
