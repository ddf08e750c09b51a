-- `sheet_show::whole::report_of` meets its contract: the arrays are as long as what the counts cut off, and those parts hold the lines.
use mathlib.Core.Path.{◌≡◌, sym, ap}
use native.Mathlib.Omega.{arith}
use borrow.Author.Rules.{rules}
use lib.Seq.{length-take-le}
use Rattle.sheet_data.proofs.Cuts.{PlanArrays, DrawingArrays, PlanCut, DrawingCut}
use Rattle.sheet_data.proofs.Rooms.{in-plan, in-drawing}
use Rattle.sheet_data.proofs.Remembered.{report-asked-by, report-same-by}
use Rattle.sheet_data.specs.inner.Parts.{numbers_in}
use Rattle.plan.specs.Limits.{max_vertices}
use lib.ListN.{length}
use Rattle.sheet_fit.specs.inner.Fitted.{fitted_text}
use Rattle.sheet_fit.proofs.FitLaws.{writes}
use Rattle.sheet_show.proofs.whole.report_of.Statement.{statement}
use Rattle.sheet_show.proofs.whole.report_of.Tie as tie

plan-arrays : (c : tie.Start) → PlanArrays c.args.plan
plan-arrays c = record { sizes = search rules; vias = search rules; halves = search rules; uppers = search rules; lowers = search rules; ratings = search rules }

drawing-arrays : (c : tie.Start) → DrawingArrays c.args.drawing
drawing-arrays c = record {
  preliminary = search rules;
  finals = search rules;
  passes = search rules;
  levels = search rules;
  counts = search rules;
  vertices = search rules;
  positions = search rules;
}

of-plan : (c : tie.Start) → PlanCut c.args.plan c.args.counts
of-plan c = in-plan c.args.plan c.args.drawing c.args.counts c.requires.0 (plan-arrays c) (drawing-arrays c)

of-drawing : (c : tie.Start) → DrawingCut c.args.drawing c.args.counts
of-drawing c = in-drawing c.args.plan c.args.drawing c.args.counts c.requires.0 (plan-arrays c) (drawing-arrays c)

numbers_long : (c : tie.Start) → length c.args.remembered ≡ max_vertices
numbers_long c = search rules

array-share-prefix-remembered : tie.Need-slice_bounds-remembered-end
array-share-prefix-remembered c = omega (arith, (of-plan c.before.before.before.before.before.before.before.before.before.before).few, numbers_long c.before.before.before.before.before.before.before.before.before.before)

slice-aggregate-fit-report-by : tie.Need-slice_bounds-fit_report_by-end
slice-aggregate-fit-report-by c = sym (length-take-le _ _ (omega (arith, (of-plan c.before.before.before.before.before.before.before.before.before.before.before).few, numbers_long c.before.before.before.before.before.before.before.before.before.before.before)))

array-share-prefix-sizes : tie.Need-slice_bounds-sizes-end
array-share-prefix-sizes c = omega (arith, (of-plan c.before.before.before.before.before.before.before.before.before.before.before).sizes, c.wide-k.ensures)

slice-aggregate-fit-report-by-2 : tie.Need-slice_bounds-fit_report_by-end-2
slice-aggregate-fit-report-by-2 c = sym (length-take-le _ _ (omega (arith, (of-plan c.before.before.before.before.before.before.before.before.before.before.before.before).sizes, c.wide-k.ensures)))

array-share-prefix-preliminary : tie.Need-slice_bounds-preliminary-end
array-share-prefix-preliminary c = (of-drawing c.before.before.before.before.before.before.before.before.before.before.before.before).preliminary

slice-aggregate-fit-report-by-3 : tie.Need-slice_bounds-fit_report_by-end-3
slice-aggregate-fit-report-by-3 c = sym (length-take-le _ _ (of-drawing c.before.before.before.before.before.before.before.before.before.before.before.before.before).preliminary)

array-share-prefix-finals : tie.Need-slice_bounds-finals-end
array-share-prefix-finals c = (of-drawing c.before.before.before.before.before.before.before.before.before.before.before.before.before).finals

slice-aggregate-fit-report-by-4 : tie.Need-slice_bounds-fit_report_by-end-4
slice-aggregate-fit-report-by-4 c = sym (length-take-le _ _ (of-drawing c.before.before.before.before.before.before.before.before.before.before.before.before.before.before).finals)

array-share-prefix-passes : tie.Need-slice_bounds-passes-end
array-share-prefix-passes c = (of-drawing c.before.before.before.before.before.before.before.before.before.before.before.before.before.before).passes

slice-aggregate-fit-report-by-5 : tie.Need-slice_bounds-fit_report_by-end-5
slice-aggregate-fit-report-by-5 c = sym (length-take-le _ _ (of-drawing c.before.before.before.before.before.before.before.before.before.before.before.before.before.before.before).passes)

array-share-prefix-levels : tie.Need-slice_bounds-levels-end
array-share-prefix-levels c = (of-drawing c.before.before.before.before.before.before.before.before.before.before.before.before.before.before.before).levels

slice-aggregate-fit-report-by-6 : tie.Need-slice_bounds-fit_report_by-end-6
slice-aggregate-fit-report-by-6 c = sym (length-take-le _ _ (of-drawing c.before.before.before.before.before.before.before.before.before.before.before.before.before.before.before.before).levels)

array-share-prefix-boxes : tie.Need-slice_bounds-boxes-end
array-share-prefix-boxes c = (of-drawing c.before.before.before.before.before.before.before.before.before.before.before.before.before.before.before.before).counts

slice-aggregate-fit-report-by-7 : tie.Need-slice_bounds-fit_report_by-end-7
slice-aggregate-fit-report-by-7 c = sym (length-take-le _ _ (of-drawing c.before.before.before.before.before.before.before.before.before.before.before.before.before.before.before.before.before).counts)

slice-aggregate-fit-report-by-8 : tie.Need-slice_bounds-fit_report_by-end-8
slice-aggregate-fit-report-by-8 c = sym (drawing-arrays c.before.before.before.before.before.before.before.before.before.before.before.before.before.before.before.before.before.before).vertices

slice-aggregate-fit-report-by-9 : tie.Need-slice_bounds-fit_report_by-end-9
slice-aggregate-fit-report-by-9 c = sym (drawing-arrays c.before.before.before.before.before.before.before.before.before.before.before.before.before.before.before.before.before.before.before).positions

fit-report-by-requires : tie.Need-fit_report_by-requires
fit-report-by-requires c κs =
    let s = c.before.before.before.before.before.before.before.before.before.before.before.before.before.before.before.before.before.before.before.before in
    let a = s.args in
    rw c.wide-k.ensures (λ o k. report-asked-by a.plan a.drawing a.counts s.requires.0 (plan-arrays s) (drawing-arrays s) (numbers_in a.remembered a.counts) s.requires.1 k)

same_length : tie.Need-shape_of-out
same_length c = c.fit_report_by.auto.out

returns : tie.Need-returns
returns c =
    let s = c.before.before.before.before.before.before.before.before.before.before.before.before.before.before.before.before.before.before.before.before.before.before.before in
    let a = s.args in
    writes (ap (λ w. fitted_text w a.out.now) (report-same-by a.plan a.drawing a.counts s.requires.0 (plan-arrays s) (drawing-arrays s) (numbers_in a.remembered a.counts) s.requires.1)) (rw c.wide-k.ensures at c.fit_report_by.ensures)

pub report_of_spec : {M : Type 1} → statement M
report_of_spec =
    tie.close
    (tie.spec (λ c κs. search rules) array-share-prefix-remembered slice-aggregate-fit-report-by array-share-prefix-sizes slice-aggregate-fit-report-by-2 array-share-prefix-preliminary
    slice-aggregate-fit-report-by-3 array-share-prefix-finals slice-aggregate-fit-report-by-4 array-share-prefix-passes
    slice-aggregate-fit-report-by-5 array-share-prefix-levels slice-aggregate-fit-report-by-6 array-share-prefix-boxes
    slice-aggregate-fit-report-by-7 slice-aggregate-fit-report-by-8 slice-aggregate-fit-report-by-9
    fit-report-by-requires same_length returns)
