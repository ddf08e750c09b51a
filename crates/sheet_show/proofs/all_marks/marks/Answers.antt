-- Refused or not by 11 to 13; what is written is exact.
use Rattle.std.proofs.Common.{rules, ◌≡◌, refl, sym, ap, ◌∙◌, Err}
use Rattle.ints.specs.Refusals.{refused_by}
use Rattle.ints.proofs.Refusals.{has-number}
use Rattle.sheet_data.proofs.Cuts.{PlanArrays}
use Rattle.sheet.proofs.Exactly.{writes-marks}
use Rattle.sheet_fit.proofs.FitLaws.{writes}
use Rattle.sheet_show.proofs.ShowLaws.{holds, marks-refused, marks-shown}
use Rattle.sheet_show.proofs.all_marks.marks.Goals as goal

pub returns-in_err-check_show : goal.returns-in_err-check_show
returns-in_err-check_show c =
    let arrays : PlanArrays c.args.sheet.plan = record { sizes = search rules; vias = search rules; halves = search rules; uppers = search rules; lowers = search rules; ratings = search rules } in
    let e : c.from_residual.result ≡ Err c.in_err-check_show.field-0.0 = search rules in
    rw e (writes-marks c.args.sheet c.args.out.now arrays
    (writes (marks-refused c.args.sheet _ c.in_err-check_show.ensures (has-number _) c.args.out.now) (record { answered = refl; left = refl })))

pub marks_of-requires : goal.marks_of-requires
marks_of-requires c = rw c.counts_in.ensures (holds c.args.sheet _ c.check_show.ensures (ap refused_by c.in_ok-check_show.was))

pub returns : goal.returns
returns c =
    let arrays : PlanArrays c.args.sheet.plan = record { sizes = search rules; vias = search rules; halves = search rules; uppers = search rules; lowers = search rules; ratings = search rules } in
    writes-marks c.args.sheet c.args.out.now arrays
    (writes (marks-shown c.args.sheet _ c.check_show.ensures (ap refused_by c.in_ok-check_show.was) c.args.out.now) (rw c.counts_in.ensures at c.marks_of.ensures))
