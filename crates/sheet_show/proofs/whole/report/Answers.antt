-- Refused or not by 11 to 13.
use Rattle.std.proofs.Common.{rules, ◌≡◌, refl, sym, ap, ◌∙◌, Ok, Err}
use Rattle.ints.specs.Refusals.{refused_by}
use Rattle.ints.proofs.Refusals.{has-number}
use Rattle.sheet_fit.proofs.FitLaws.{writes}
use Rattle.sheet_show.proofs.ShowLaws.{holds, own, report-refused, report-shown}
use Rattle.sheet_show.proofs.whole.report.Goals as goal

pub returns-in_err-check_show : goal.returns-in_err-check_show
returns-in_err-check_show c =
    let x = c.in_err-check_show.field-0.0 in
    let e : c.from_residual.result ≡ Err x = search rules in
    let v : c.check_show.result ≡ Err x = search rules in
    rw e
    (writes (report-refused c.args.sheet _ (ap refused_by (sym v) ∙ c.check_show.ensures) (has-number _) c.args.out.now)
    (record { answered = refl; left = refl }))

pub report_of-requires : goal.report_of-requires
report_of-requires c =
    let s = c.args.sheet in
    let v : c.check_show.result ≡ Ok c.in_ok-check_show.field-0 = search rules in
    let z = ap refused_by v in
    rw c.counts_in.ensures (holds s _ c.check_show.ensures z, own s _ c.check_show.ensures z)

pub returns : goal.returns
returns c =
    let v : c.check_show.result ≡ Ok c.in_ok-check_show.field-0 = search rules in
    writes (report-shown c.args.sheet _ c.check_show.ensures (ap refused_by v) c.args.out.now) (rw c.counts_in.ensures at c.report_of.ensures)
