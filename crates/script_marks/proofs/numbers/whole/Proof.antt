-- `script_marks::numbers::whole` meets its contract: between -1 and 2^64 the whole part is there to be taken.
use Rattle.std.proofs.Common.{T, sym, subst}
use lib.Ieee.{of_bits, neg}
use Rattle.script_marks.specs.inner.Floats.{whole_in}
use Rattle.script_marks.proofs.numbers.whole.Statement.{statement}
use Rattle.script_marks.proofs.numbers.whole.Tie as tie

truncating-f64-to-u64-requires : tie.Need-truncating_f64_to_u64-requires
unfolding of_bits neg
truncating-f64-to-u64-requires c κs = (subst T (sym c.if-x.true) tt, subst T (sym c.if-x-2.true) tt)

returns : tie.Need-returns-then-x-2
unfolding whole_in of_bits neg
returns c = rw (c.if-x.true, c.if-x-2.true) c.truncating_f64_to_u64.ensures

returns-2 : tie.Need-returns-else-x-2
unfolding whole_in of_bits neg
returns-2 c = rw (c.if-x.true, c.if-x-2.false)

returns-3 : tie.Need-returns-else-x
unfolding whole_in of_bits neg
returns-3 c = rw c.if-x.false

pub whole_spec : {M : Type 1} → statement M
whole_spec = tie.close
    (tie.spec truncating-f64-to-u64-requires returns returns-2 returns-3)
