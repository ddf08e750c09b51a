-- By what reading into arrays that are 0 finds.
use Rattle.std.proofs.Common.{◌≡◌, sym, ap, ◌∙◌, Err, rules}
use Rattle.ints.specs.Refusals.{refused_by}
use Rattle.ints.proofs.Refusals.{has-number}
use Rattle.text.specs.Reading.{refused}
use Rattle.text_read.specs.Answer.{answer_of}
use Rattle.text_read.proofs.Verdict.{kept-answer}
use Rattle.text_read.proofs.read.Goals as goal

pub returns-in_err-r : goal.returns-in_err-r
unfolding answer_of
returns-in_err-r c =
    let r = c.in_err-r.field-0.0 in
    let e : c.from_residual.result ≡ Err r = search rules in
    let w : c.read_into-r.result.verdict ≡ Err r = c.in_err-r.was in
    let f = c.read_into-r.ensures.refuses (λ z. has-number r (sym (ap refused_by w) ∙ z)) in
    rw e (ap answer_of (sym (f ∙ ap (λ v. refused (refused_by v)) w)))

pub returns : goal.returns
returns c =
    let a = c.read_into-r.ensures.accepts (ap refused_by c.in_ok-r.was) in
    rw c.new.ensures (kept-answer _ _ _ _ _ _ _ _ a.kept ∙ ap answer_of (sym a.reads))
