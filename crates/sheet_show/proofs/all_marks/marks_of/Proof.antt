-- `sheet_show::all_marks::marks_of` meets its contract: the arrays are as long as what the counts cut off, and those parts hold the marks.
use mathlib.Core.Path.{sym}
use native.Mathlib.Omega.{arith}
use borrow.Author.Rules.{rules}
use lib.Seq.{length-take-le}
use Rattle.sheet_data.specs.inner.Parts.{plan_with}
use Rattle.sheet_data.proofs.Cuts.{PlanArrays, DrawingArrays, PlanCut, DrawingCut}
use Rattle.sheet_data.proofs.Rooms.{in-plan, in-drawing, marks-asked, mark-data, marks-are}
use Rattle.sheet_show.proofs.all_marks.marks_of.Statement.{statement}
use Rattle.sheet_show.proofs.all_marks.marks_of.Tie as tie

plan-arrays : (c : tie.Start) → PlanArrays c.args.plan
plan-arrays c = record { sizes = search rules; vias = search rules; halves = search rules; uppers = search rules; lowers = search rules; ratings = search rules }

drawing-arrays : (c : tie.Start) → DrawingArrays c.args.drawing
drawing-arrays c = record {
  preliminary = search rules;
  finals = search rules;
  passes = search rules;
  levels = search rules;
  counts = search rules;
  vertices = search rules;
  positions = search rules;
}

of-plan : (c : tie.Start) → PlanCut c.args.plan c.args.counts
of-plan c = in-plan c.args.plan c.args.drawing c.args.counts c.requires (plan-arrays c) (drawing-arrays c)

of-drawing : (c : tie.Start) → DrawingCut c.args.drawing c.args.counts
of-drawing c = in-drawing c.args.plan c.args.drawing c.args.counts c.requires (plan-arrays c) (drawing-arrays c)

array-share-prefix-sizes : tie.Need-slice_bounds-sizes-end
array-share-prefix-sizes c = omega (arith, (of-plan c.before.before.before.before.before.before.before.before).sizes, c.wide-k.ensures)

slice-aggregate-fit-marks : tie.Need-slice_bounds-fit_marks-end
slice-aggregate-fit-marks c = sym (length-take-le _ _ (omega (arith, (of-plan c.before.before.before.before.before.before.before.before.before).sizes, c.wide-k.ensures)))

array-share-prefix-vias : tie.Need-slice_bounds-vias-end
array-share-prefix-vias c = (of-plan c.before.before.before.before.before.before.before.before.before).vias

slice-aggregate-fit-marks-2 : tie.Need-slice_bounds-fit_marks-end-2
slice-aggregate-fit-marks-2 c = sym (length-take-le _ _ (of-plan c.before.before.before.before.before.before.before.before.before.before).vias)

array-share-prefix-halves : tie.Need-slice_bounds-halves-end
array-share-prefix-halves c = (of-plan c.before.before.before.before.before.before.before.before.before.before).halves

slice-aggregate-fit-marks-3 : tie.Need-slice_bounds-fit_marks-end-3
slice-aggregate-fit-marks-3 c = sym (length-take-le _ _ (of-plan c.before.before.before.before.before.before.before.before.before.before.before).halves)

array-share-prefix-uppers : tie.Need-slice_bounds-uppers-end
array-share-prefix-uppers c = (of-plan c.before.before.before.before.before.before.before.before.before.before.before).uppers

slice-aggregate-fit-marks-4 : tie.Need-slice_bounds-fit_marks-end-4
slice-aggregate-fit-marks-4 c = sym (length-take-le _ _ (of-plan c.before.before.before.before.before.before.before.before.before.before.before.before).uppers)

array-share-prefix-lowers : tie.Need-slice_bounds-lowers-end
array-share-prefix-lowers c = (of-plan c.before.before.before.before.before.before.before.before.before.before.before.before).lowers

slice-aggregate-fit-marks-5 : tie.Need-slice_bounds-fit_marks-end-5
slice-aggregate-fit-marks-5 c = sym (length-take-le _ _ (of-plan c.before.before.before.before.before.before.before.before.before.before.before.before.before).lowers)

array-share-prefix-finals : tie.Need-slice_bounds-finals-end
array-share-prefix-finals c = (of-drawing c.before.before.before.before.before.before.before.before.before.before.before.before.before).finals

slice-aggregate-fit-marks-6 : tie.Need-slice_bounds-fit_marks-end-6
slice-aggregate-fit-marks-6 c = sym (length-take-le _ _ (of-drawing c.before.before.before.before.before.before.before.before.before.before.before.before.before.before).finals)

fit-marks-requires : tie.Need-fit_marks-requires
fit-marks-requires c κs =
    let s = c.before.before.before.before.before.before.before.before.before.before.before.before.before.before.before in
    let a = s.args in
    rw c.wide-k.ensures (marks-asked a.plan a.drawing a.counts s.requires (plan-arrays s) (drawing-arrays s))

returns : tie.Need-returns
returns c =
    let s = c.before.before.before.before.before.before.before.before.before.before.before.before.before.before.before.before.before.before in
    let a = s.args in
    rw (← marks-are a.plan a.counts s.requires.plan (plan-arrays s)) (c.fit_marks.ensures (plan_with a.plan a.counts) (rw c.wide-k.ensures (mark-data a.plan a.drawing a.counts s.requires)))

pub marks_of_spec : {M : Type 1} → statement M
marks_of_spec =
    tie.close
    (tie.spec (λ c κs. search rules) array-share-prefix-sizes slice-aggregate-fit-marks array-share-prefix-vias
    slice-aggregate-fit-marks-2 array-share-prefix-halves slice-aggregate-fit-marks-3 array-share-prefix-uppers
    slice-aggregate-fit-marks-4 array-share-prefix-lowers slice-aggregate-fit-marks-5 array-share-prefix-finals
    slice-aggregate-fit-marks-6 fit-marks-requires (λ c. search rules) returns)
