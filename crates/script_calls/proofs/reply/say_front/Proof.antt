-- `script_calls::reply::say_front` meets its contract: n bytes, or all if there are no more.
use mathlib.Core.Path.{sym}
use native.Mathlib.Omega.{arith}
use lib.Seq.{length-take-le, take_all}
use borrow.Author.Rules.{rules}
use Rattle.script_calls.proofs.reply.say_front.Statement.{statement}
use Rattle.script_calls.proofs.reply.say_front.Tie as tie

slice-aggregate-say-text : tie.Need-slice_bounds-say_text-end
slice-aggregate-say-text c = sym (length-take-le _ _ (omega arith))

say-text-requires-2 : tie.Need-say_text-requires-2
say-text-requires-2 c κs = rw (take_all c.args.n c.args.buffer.now c.if-n-buffer.false) at c.requires

returns-2 : tie.Need-returns
returns-2 c = rw (take_all c.args.n c.args.buffer.now c.if-n-buffer.false) c.say_text-2.ensures

pub say_front_spec : {M : Type 1} → statement M
say_front_spec =
    tie.close
    (tie.spec slice-aggregate-say-text (λ c κs. search rules) (λ c. search rules) (λ c. search rules) say-text-requires-2 (λ c. search rules) returns-2)
