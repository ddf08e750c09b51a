-- Refused or not by 11, 15 and 13.
use Rattle.std.proofs.Common.{rules, ◌≡◌, refl, ap, Err}
use Rattle.ints.specs.Refusals.{refused_by}
use Rattle.ints.proofs.Refusals.{has-number}
use Rattle.sheet_fit.proofs.FitLaws.{writes}
use Rattle.sheet_text.proofs.TextLaws.{holds, line_refused, line-shown}
use Rattle.sheet_text.proofs.line.text_line.Goals as goal

pub returns-in_err-check_text : goal.returns-in_err-check_text
returns-in_err-check_text c =
    let e : c.from_residual.result ≡ Err c.in_err-check_text.field-0.0 = search rules in
    rw e (writes (line_refused c.args.sheet _ c.in_err-check_text.ensures (has-number _) c.args.n c.args.out.now) (record { answered = refl; left = refl }))

pub text_line_of-requires : goal.text_line_of-requires
text_line_of-requires c = rw c.counts_in.ensures (holds c.args.sheet _ c.check_text.ensures (ap refused_by c.in_ok-check_text.was))

pub returns : goal.returns
returns c =
    writes (line-shown c.args.sheet _ c.check_text.ensures (ap refused_by c.in_ok-check_text.was) c.args.n c.args.out.now) (rw c.counts_in.ensures at c.text_line_of.ensures)
