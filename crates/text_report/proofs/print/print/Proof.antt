-- `text_report::print::print` meets its contract: by what the report answered; it is never refused 14.
use borrow.Author.Rules.{rules}
use Rattle.text_report.proofs.Texts.{prints}
use Rattle.text_report.proofs.print.print.Statement.{statement}
use Rattle.text_report.proofs.print.print.Tie as tie

returns : tie.Need-returns
returns c =
    let k = c.before.before in
    let t = k.before.before.before.before in
    let s = t in
    prints s.args.text.now s.args.out.now _ s.requires t.report_text-answer.result t.report_text-answer.ensures k.print_answer.ensures

pub print_spec : {M : Type 1} → statement M
print_spec =
    tie.close
    (tie.spec (λ c κs. search rules) (λ c κs. search rules) (λ c. search rules) returns)
