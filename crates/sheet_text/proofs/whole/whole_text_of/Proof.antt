-- `sheet_text::whole::whole_text_of` meets its contract: no text is longer than the local buffer, and what stands there is the text of
-- the plan as it was read.
use mathlib.Core.Path.{sym, ◌∙◌, ap}
use borrow.Author.Rules.{rules}
use lib.ListN.{length-replicate}
use lib.Seq.{length-take-le}
use Rattle.text.specs.Writing.{text_of}
use Rattle.text.proofs.RoundTrip.{limits-short}
use Rattle.sheet_data.specs.inner.Parts.{plan_with}
use Rattle.sheet_fit.proofs.FitLaws.{front_long, front-is}
use Rattle.sheet_text.proofs.whole.whole_text_of.Statement.{statement}
use Rattle.sheet_text.proofs.whole.whole_text_of.Tie as tie

returns : tie.Need-returns
returns c =
    let r = c.as_read-read in
    let text = front-is {w = text_of (plan_with r.result c.args.counts)} c.stored_text-length.ensures ∙ ap text_of r.ensures.is in
    rw text at c.fit.ensures

stored-text-requires : tie.Need-stored_text-length-requires
stored-text-requires c κs =
    let r = c.as_read-read in
    let is = r.ensures in
    (is.limits, rw length-replicate (limits-short (plan_with r.result c.args.counts) is.limits.plan is.three))

array-share-prefix-room : tie.Need-slice_bounds-room-end
array-share-prefix-room c = front_long c.stored_text-length.ensures

slice-aggregate-fit : tie.Need-slice_bounds-fit-end
slice-aggregate-fit c = sym (length-take-le _ _ (front_long c.stored_text-length.ensures))

pub whole_text_of_spec : {M : Type 1} → statement M
whole_text_of_spec =
    tie.close
    (tie.spec (λ c κs. search rules) (λ c. search rules) stored-text-requires array-share-prefix-room slice-aggregate-fit (λ c κs. search rules)
    (λ c. search rules) returns)
