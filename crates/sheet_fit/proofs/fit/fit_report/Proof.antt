-- `sheet_fit::fit::fit_report` meets its contract: no report is longer than its own buffer, and what stands there is the report; what
-- was written at the front of the lent buffer fits it.
use mathlib.Core.Path.{sym}
use native.Mathlib.Omega.{arith}
use borrow.Author.Rules.{rules}
use lib.Seq.{length-take-le}
use Rattle.sheet_fit.proofs.FitLaws.{front_long, front-is, wrote-all}
use Rattle.sheet_fit.proofs.fit.fit_report.Statement.{statement}
use Rattle.sheet_fit.proofs.fit.fit_report.Tie as tie

slice-aggregate-put-report : tie.Need-slice_bounds-put_report-end
slice-aggregate-put-report c = search rules

put-report-requires : tie.Need-put_report-length-requires
put-report-requires c κs = c.requires c.blank-room.result (omega (arith, slice-aggregate-put-report c))

array-share-prefix-room : tie.Need-slice_bounds-room-end
array-share-prefix-room c = front_long c.put_report-length.ensures

slice-aggregate-fit : tie.Need-slice_bounds-fit-end
slice-aggregate-fit c = sym (length-take-le _ _ (front_long c.put_report-length.ensures))

returns : tie.Need-returns-then-out-lt-MAX_REPORT
returns c = rw (front-is c.put_report-length.ensures) at c.fit.ensures

put-report-requires-2 : tie.Need-put_report-requires
put-report-requires-2 c κs = c.requires c.args.out.now c.if-out-lt-MAX_REPORT.false

same-length-2 : tie.Need-shape_of-out
same-length-2 c = search rules

returns-2 : tie.Need-returns
returns-2 c = wrote-all c.put_report.ensures (same-length-2 c)

pub fit_report_spec : {M : Type 1} → statement M
fit_report_spec =
    tie.close
    (tie.spec (λ c κs. search rules) slice-aggregate-put-report put-report-requires array-share-prefix-room slice-aggregate-fit
    (λ c κs. search rules) (λ c. search rules) returns put-report-requires-2 same-length-2 returns-2)
