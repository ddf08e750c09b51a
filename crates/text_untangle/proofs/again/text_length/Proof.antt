-- `text_untangle::again::text_length` meets its contract: no text of a plan that passes the checks is longer than the buffer.
use borrow.Author.Rules.{rules}
use lib.ListN.{length-replicate}
use Rattle.plan.specs.Stored.{plan_data}
use Rattle.text.proofs.RoundTrip.{text-short}
use Rattle.text_write.proofs.AgainLaws.{stored-limits}
use Rattle.text_untangle.proofs.again.text_length.Statement.{statement}
use Rattle.text_untangle.proofs.again.text_length.Tie as tie

stored-text-requires : tie.Need-stored_text-requires
stored-text-requires c κs =
    let s = c in
    (stored-limits s.requires, rw length-replicate (text-short (plan_data s.args.plan s.args.vertices s.args.segments) s.requires.plan))

returns : tie.Need-returns
returns c = c.stored_text.ensures.count

pub text_length_spec : {M : Type 1} → statement M
text_length_spec = tie.close
    (tie.spec (λ c. search rules) stored-text-requires returns)
