-- `script_marks::numbers::put_across` meets its contract: a minus sign before negatives, and the half steps, which are twice the number.
use Rattle.std.proofs.Common.{true, pos, rules}
use lib.Ieee.{fin, binary64, mul, of_bits, neg}
use Rattle.text.specs.Bytes.{bytes}
use Rattle.text_write.proofs.Written.{and_then, room-first, room-then}
use Rattle.script_marks.specs.Marks.{half_steps}
use Rattle.script_marks.specs.inner.Floats.{whole_in}
use borrow.Author.Rules.{rules}
use Rattle.script_marks.proofs.ByCase.{across-minus, across-plus}
use Rattle.script_marks.proofs.numbers.put_across.Statement.{statement}
use Rattle.script_marks.proofs.numbers.put_across.Tie as tie

put-word-requires : tie.Need-put_word-next-requires
unfolding of_bits
put-word-requires c κs =
    let s = c in let a = s.args in
    room-first (bytes "-") (half_steps (whole_in (mul binary64 a.x (fin true 1 (pos 1))))) a.out.now a.at (rw (across-minus a.x c.if-x.true) at s.requires)

put-half-steps-requires : tie.Need-put_half_steps-requires
unfolding of_bits neg
put-half-steps-requires c κs =
    let s = c in let a = s.args in
    rw c.whole.ensures (room-then (half_steps (whole_in (mul binary64 a.x (fin true 1 (pos 1))))) c.put_word-next.ensures (rw (across-minus a.x c.if-x.true) at s.requires))

returns : tie.Need-returns-then-x
unfolding of_bits neg
returns c =
    rw (across-minus c.args.x c.if-x.true) (and_then c.put_word-next.ensures (rw c.whole.ensures at c.put_half_steps.ensures))

put-half-steps-requires-2 : tie.Need-put_half_steps-requires-2
unfolding of_bits
put-half-steps-requires-2 c κs = rw c.whole-2.ensures (rw (across-plus c.args.x c.if-x.false) at c.requires)

returns-2 : tie.Need-returns
unfolding of_bits
returns-2 c = rw (across-plus c.args.x c.if-x.false) (rw c.whole-2.ensures at c.put_half_steps-2.ensures)

pub put_across_spec : {M : Type 1} → statement M
put_across_spec =
    tie.close
    (tie.spec put-word-requires (λ c κs. search rules) put-half-steps-requires (λ c. search rules) returns (λ c κs. search rules) put-half-steps-requires-2 (λ c. search rules) returns-2)
