-- By what reading the text found.
use Rattle.std.proofs.Common.{rules, ◌≡◌, sym, ap, ◌∙◌, Err}
use Rattle.ints.specs.Refusals.{refused_by}
use Rattle.ints.proofs.Refusals.{has-number}
use Rattle.text.specs.Reading.{refused}
use Rattle.sheet_fit.proofs.FitLaws.{writes}
use Rattle.text_report.specs.Texts.{report_of}
use Rattle.text_report.proofs.Texts.{report-not}
use Rattle.text_report.proofs.whole.report_text.Goals as goal

pub returns-in_err-r : goal.returns-in_err-r
returns-in_err-r c =
    let r = c.in_err-r.field-0.0 in
    let b = c.args.out.now in
    let e : c.from_residual.result ≡ Err r = search rules in
    let w : c.read_into-r.result.verdict ≡ Err r = search rules in
    let f = c.read_into-r.ensures.refuses (λ z. has-number r (sym (ap refused_by w) ∙ z)) in
    rw e (writes (ap (λ g. report_of g b) (f ∙ ap (λ v. refused (refused_by v)) w)) (report-not r b))
