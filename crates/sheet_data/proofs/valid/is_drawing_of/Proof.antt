-- `sheet_data::valid::is_drawing_of` meets its contract: the arrays are as long as what the counts cut off, and of those parts
-- `is_drawing` decides.
use mathlib.Core.Path.{sym}
use Prim.Native.Nat.{◌≤◌}
use native.Mathlib.Omega.{arith}
use borrow.Author.Rules.{rules}
use lib.Seq.{length-take-le}
use Rattle.passes.specs.Words.{max_listed}
use Rattle.sheet_data.specs.inner.Parts.{plan_with}
use Rattle.sheet_data.proofs.Cuts.{PlanArrays, DrawingArrays, PlanCut, DrawingCut, plan-cut, drawing-cut}
use Rattle.sheet_data.proofs.ValidLaws.{many-placings, few-placings, stored-levels, stored-plan, stored-list}
use Rattle.sheet_data.proofs.valid.is_drawing_of.Statement.{statement}
use Rattle.sheet_data.proofs.valid.is_drawing_of.Tie as tie

plan-arrays : (c : tie.Start) → PlanArrays c.args.plan
plan-arrays c = record { sizes = search rules; vias = search rules; halves = search rules; uppers = search rules; lowers = search rules; ratings = search rules }

drawing-arrays : (c : tie.Start) → DrawingArrays c.args.drawing
drawing-arrays c = record {
  preliminary = search rules;
  finals = search rules;
  passes = search rules;
  levels = search rules;
  counts = search rules;
  vertices = search rules;
  positions = search rules;
}

in-plan : (c : tie.Start) → PlanCut c.args.plan c.args.counts
in-plan c = plan-cut (plan-arrays c) c.args.counts c.requires

in-drawing : (c : tie.Start) → c.args.counts.placings ≤ max_listed → DrawingCut c.args.drawing c.args.counts
in-drawing c h = drawing-cut (drawing-arrays c) c.args.counts (in-plan c).few h

returns : tie.Need-returns-then-p-gt-MAX_LISTED
returns c = let a = c.args in sym (many-placings a.plan a.drawing a.counts c.if-p-gt-MAX_LISTED.true)

array-share-prefix-sizes : tie.Need-slice_bounds-sizes-end
array-share-prefix-sizes c = omega (arith, (in-plan c.before.before.before.before.before.before.before.before.before.before.before).sizes, c.wide-k.ensures)

slice-aggregate-is-drawing : tie.Need-slice_bounds-is_drawing-end
slice-aggregate-is-drawing c = sym (length-take-le _ _ (omega (arith, (in-plan c.before.before.before.before.before.before.before.before.before.before.before.before).sizes, c.wide-k.ensures)))

array-share-prefix-vias : tie.Need-slice_bounds-vias-end
array-share-prefix-vias c = omega (arith, (in-plan c.before.before.before.before.before.before.before.before.before.before.before.before).vias)

slice-aggregate-is-drawing-2 : tie.Need-slice_bounds-is_drawing-end-2
slice-aggregate-is-drawing-2 c = sym (length-take-le _ _ (in-plan c.before.before.before.before.before.before.before.before.before.before.before.before.before).vias)

array-share-prefix-preliminary : tie.Need-slice_bounds-preliminary-end
array-share-prefix-preliminary c = omega (arith, (in-drawing c.before.before.before.before.before.before.before.before.before.before.before.before.before c.if-p-gt-MAX_LISTED.false).preliminary)

slice-aggregate-is-drawing-3 : tie.Need-slice_bounds-is_drawing-end-3
slice-aggregate-is-drawing-3 c = sym (length-take-le _ _ (in-drawing c.before.before.before.before.before.before.before.before.before.before.before.before.before.before c.if-p-gt-MAX_LISTED.false).preliminary)

array-share-prefix-finals : tie.Need-slice_bounds-finals-end
array-share-prefix-finals c = omega (arith, (in-drawing c.before.before.before.before.before.before.before.before.before.before.before.before.before.before c.if-p-gt-MAX_LISTED.false).finals)

slice-aggregate-is-drawing-4 : tie.Need-slice_bounds-is_drawing-end-4
slice-aggregate-is-drawing-4 c = sym (length-take-le _ _ (in-drawing c.before.before.before.before.before.before.before.before.before.before.before.before.before.before.before c.if-p-gt-MAX_LISTED.false).finals)

array-share-prefix-passes : tie.Need-slice_bounds-passes-end
array-share-prefix-passes c = omega (arith, (in-drawing c.before.before.before.before.before.before.before.before.before.before.before.before.before.before.before c.if-p-gt-MAX_LISTED.false).passes)

slice-aggregate-is-drawing-5 : tie.Need-slice_bounds-is_drawing-end-5
slice-aggregate-is-drawing-5 c = sym (length-take-le _ _ (in-drawing c.before.before.before.before.before.before.before.before.before.before.before.before.before.before.before.before c.if-p-gt-MAX_LISTED.false).passes)

array-share-prefix-levels : tie.Need-slice_bounds-levels-end
array-share-prefix-levels c = omega (arith, (in-drawing c.before.before.before.before.before.before.before.before.before.before.before.before.before.before.before.before c.if-p-gt-MAX_LISTED.false).levels)

slice-aggregate-is-drawing-6 : tie.Need-slice_bounds-is_drawing-end-6
slice-aggregate-is-drawing-6 c = sym (length-take-le _ _ (in-drawing c.before.before.before.before.before.before.before.before.before.before.before.before.before.before.before.before.before c.if-p-gt-MAX_LISTED.false).levels)

array-share-prefix-boxes : tie.Need-slice_bounds-boxes-end
array-share-prefix-boxes c = omega (arith, (in-drawing c.before.before.before.before.before.before.before.before.before.before.before.before.before.before.before.before.before c.if-p-gt-MAX_LISTED.false).counts)

slice-aggregate-is-drawing-7 : tie.Need-slice_bounds-is_drawing-end-7
slice-aggregate-is-drawing-7 c = sym (length-take-le _ _ (in-drawing c.before.before.before.before.before.before.before.before.before.before.before.before.before.before.before.before.before.before c.if-p-gt-MAX_LISTED.false).counts)

slice-aggregate-is-drawing-8 : tie.Need-slice_bounds-is_drawing-end-8
slice-aggregate-is-drawing-8 c = sym (drawing-arrays c.before.before.before.before.before.before.before.before.before.before.before.before.before.before.before.before.before.before.before).vertices

slice-aggregate-is-drawing-9 : tie.Need-slice_bounds-is_drawing-end-9
slice-aggregate-is-drawing-9 c = sym (drawing-arrays c.before.before.before.before.before.before.before.before.before.before.before.before.before.before.before.before.before.before.before.before).positions

is-drawing-requires : tie.Need-is_drawing-requires
is-drawing-requires c κs =
    let s = c.before.before.before.before.before.before.before.before.before.before.before.before.before.before.before.before.before.before.before.before in
    let a = s.args in
    (rw c.wide-k.ensures (stored-levels a.plan a.drawing a.counts s.requires), stored-list a.plan a.drawing a.counts (drawing-arrays s) (in-drawing s c.if-p-gt-MAX_LISTED.false))

returns-2 : tie.Need-returns
returns-2 c =
    let s = c in
    let a = s.args in
    few-placings a.plan a.drawing a.counts _ c.if-p-gt-MAX_LISTED.false (c.is_drawing.ensures (plan_with a.plan a.counts) (rw c.wide-k.ensures (stored-plan a.plan a.drawing a.counts s.requires)))

pub is_drawing_of_spec : {M : Type 1} → statement M
is_drawing_of_spec =
    tie.close
    (tie.spec returns (λ c κs. search rules) array-share-prefix-sizes slice-aggregate-is-drawing array-share-prefix-vias
    slice-aggregate-is-drawing-2 array-share-prefix-preliminary slice-aggregate-is-drawing-3 array-share-prefix-finals
    slice-aggregate-is-drawing-4 array-share-prefix-passes slice-aggregate-is-drawing-5 array-share-prefix-levels
    slice-aggregate-is-drawing-6 array-share-prefix-boxes slice-aggregate-is-drawing-7 slice-aggregate-is-drawing-8
    slice-aggregate-is-drawing-9 is-drawing-requires returns-2)
