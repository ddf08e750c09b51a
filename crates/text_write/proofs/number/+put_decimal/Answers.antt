-- `put_decimal` meets its contract: one digit is written here, and more digits are those of a tenth and the last one.
use Rattle.std.proofs.Common.{arith}
use Rattle.text_write.proofs.Written.{decimal-some, decimal-longer, digit-alone, digit-last}
use Rattle.text_write.proofs.number.+put_decimal.Goals as goal

pub bounds-out-at : goal.bounds-out-at
bounds-out-at t c = omega (arith, decimal-some c.args.n)

pub returns-then-n-lt10 : goal.returns-then-n-lt10
returns-then-n-lt10 t c = digit-alone c.args.n c.args.out.now c.args.at c.if-n-lt10.true

pub put_decimal-last-requires : goal.put_decimal-last-requires
put_decimal-last-requires t c = (omega (arith, c.decreases, c.if-n-lt10.false), omega (arith, decimal-longer c.args.n c.if-n-lt10.false))

pub bounds-out-last : goal.bounds-out-last
bounds-out-last t c = omega (arith, decimal-longer c.args.n c.if-n-lt10.false, c.put_decimal-last.ensures.next, c.put_decimal-last.auto.out)

pub overflow_add-result-2 : goal.overflow_add-result-2
overflow_add-result-2 t c = omega (arith, decimal-longer c.args.n c.if-n-lt10.false, c.put_decimal-last.ensures.next)

pub returns : goal.returns
returns t c = digit-last c.args.n c.if-n-lt10.false c.put_decimal-last.ensures
