-- `script_turn::call::next_call` meets its contract: an answer follows what is not refused.
use mathlib.Core.Path.{◌∙◌, ap}
use mathlib.Core.Bool.{Bool, false, cond}
use Prim.Native.Nat.{◌+◌}
use lib.Dec.{ltb}
use borrow.Author.Rules.{rules}
use Rattle.script_told.specs.Turns.{most_answers}
use Rattle.script_turn.proofs.call.next_call.Statement.{statement}
use Rattle.script_turn.proofs.call.next_call.Tie as tie

returns : tie.Need-returns
returns c =
    let t = c.ask-answered.ensures in
    record {
      wrote = t.wrote;
      left = t.left;
      further = c.goes_on.ensures ∙ ap (λ (b : Bool). cond b false (ltb (c.args.n + 1) most_answers)) t.ends;
    }

pub next_call_spec : {M : Type 1} → statement M
next_call_spec =
    tie.close
    (tie.spec (λ c κs. search rules) (λ c κs. search rules) (λ c. search rules) returns)
