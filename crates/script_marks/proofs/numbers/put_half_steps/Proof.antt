-- `script_marks::numbers::put_half_steps` meets its contract: steps, and whether a half is left.
use Rattle.std.proofs.Common.{rules}
use borrow.Author.Rules.{rules}
use Rattle.script_marks.proofs.ByCase.{half-even, half-odd}
use Rattle.script_marks.proofs.numbers.put_half_steps.Statement.{statement}
use Rattle.script_marks.proofs.numbers.put_half_steps.Tie as tie

put-then-requires : tie.Need-put_then-requires
put-then-requires c κs = rw (half-even c.args.n c.if-n-eq0.true) at c.requires

returns : tie.Need-returns-then-n-eq0
returns c = rw (half-even c.args.n c.if-n-eq0.true) c.put_then.ensures

put-then-requires-2 : tie.Need-put_then-requires-2
put-then-requires-2 c κs = rw (half-odd c.args.n c.if-n-eq0.false) at c.requires

returns-2 : tie.Need-returns
returns-2 c = rw (half-odd c.args.n c.if-n-eq0.false) c.put_then-2.ensures

pub put_half_steps_spec : {M : Type 1} → statement M
put_half_steps_spec =
    tie.close
    (tie.spec put-then-requires (λ c. search rules) returns put-then-requires-2 (λ c. search rules) returns-2)
