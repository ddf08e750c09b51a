-- `sheet_draw::stored::draw_into` meets its contract: the arrays are as long as what the counts cut off.
use mathlib.Core.Path.{◌≡◌, sym, ◌∙◌}
use native.Mathlib.Omega.{arith}
use borrow.Author.Rules.{rules}
use lib.ListN.{length, take}
use lib.Seq.{length-take-le}
use Rattle.plan.specs.Stored.{plan_data}
use Rattle.report.specs.declared.data.Counts.{Counts}
use Rattle.sheet_data.proofs.Cuts.{PlanArrays, PlanCut, plan-cut}
use Rattle.sheet_draw.proofs.NewLaws.{plan-lists}
use Rattle.sheet_draw.proofs.stored.draw_into.Statement.{statement}
use Rattle.sheet_draw.proofs.stored.draw_into.Tie as tie

plan-arrays : (c : tie.Start) → PlanArrays c.args.plan
plan-arrays c = record { sizes = search rules; vias = search rules; halves = search rules; uppers = search rules; lowers = search rules; ratings = search rules }

abbrev counts : tie.Start → Counts
counts c = record { vertices = c.args.v; segments = c.args.e; placings = 0 }

of-plan : (c : tie.Start) → PlanCut c.args.plan (counts c)
of-plan c = plan-cut (plan-arrays c) (counts c) c.requires.plan

vertices : (c : tie.Start) → length (take c.args.v c.args.plan.vias) ≡ c.args.v
vertices c = length-take-le c.args.v c.args.plan.vias (of-plan c).vias

array-share-prefix-sizes : tie.Need-slice_bounds-sizes-end
array-share-prefix-sizes c = omega (arith, (of-plan c.before.before.before.before.before.before.before.before.before.before.before).sizes, c.wide-k.ensures)

slice-aggregate-draw : tie.Need-slice_bounds-draw-end
slice-aggregate-draw c = sym (length-take-le _ _ (omega (arith, (of-plan c.before.before.before.before.before.before.before.before.before.before.before.before).sizes, c.wide-k.ensures)))

array-share-prefix-vias : tie.Need-slice_bounds-vias-end
array-share-prefix-vias c = (of-plan c.before.before.before.before.before.before.before.before.before.before.before.before).vias

slice-aggregate-draw-2 : tie.Need-slice_bounds-draw-end-2
slice-aggregate-draw-2 c = sym (length-take-le _ _ (of-plan c.before.before.before.before.before.before.before.before.before.before.before.before.before).vias)

array-share-prefix-halves : tie.Need-slice_bounds-halves-end
array-share-prefix-halves c = (of-plan c.before.before.before.before.before.before.before.before.before.before.before.before.before).halves

slice-aggregate-draw-3 : tie.Need-slice_bounds-draw-end-3
slice-aggregate-draw-3 c = sym (length-take-le _ _ (of-plan c.before.before.before.before.before.before.before.before.before.before.before.before.before.before).halves)

array-share-prefix-uppers : tie.Need-slice_bounds-uppers-end
array-share-prefix-uppers c = (of-plan c.before.before.before.before.before.before.before.before.before.before.before.before.before.before).uppers

slice-aggregate-draw-4 : tie.Need-slice_bounds-draw-end-4
slice-aggregate-draw-4 c = sym (length-take-le _ _ (of-plan c.before.before.before.before.before.before.before.before.before.before.before.before.before.before.before).uppers)

array-share-prefix-lowers : tie.Need-slice_bounds-lowers-end
array-share-prefix-lowers c = (of-plan c.before.before.before.before.before.before.before.before.before.before.before.before.before.before.before).lowers

slice-aggregate-draw-5 : tie.Need-slice_bounds-draw-end-5
slice-aggregate-draw-5 c = sym (length-take-le _ _ (of-plan c.before.before.before.before.before.before.before.before.before.before.before.before.before.before.before.before).lowers)

array-share-prefix-ratings : tie.Need-slice_bounds-ratings-end
array-share-prefix-ratings c = (of-plan c.before.before.before.before.before.before.before.before.before.before.before.before.before.before.before.before).ratings

slice-aggregate-draw-6 : tie.Need-slice_bounds-draw-end-6
slice-aggregate-draw-6 c = sym (length-take-le _ _ (of-plan c.before.before.before.before.before.before.before.before.before.before.before.before.before.before.before.before.before).ratings)

draw-requires : tie.Need-draw-requires
draw-requires c κs =
    let s = c.before.before.before.before.before.before.before.before.before.before.before.before.before.before.before.before.before.before.before.before.before.before.before.before in
    record {
      some = record { plan = plan_data s.args.plan s.args.v s.args.e; lists = rw c.wide-k.ensures (plan-lists s.args.plan (counts s) s.requires.plan) };
      preliminary_room = s.requires.preliminary_room ∙ sym (vertices s);
      final_room = s.requires.final_room ∙ sym (vertices s);
      no_passes = s.requires.no_passes;
      no_levels = s.requires.no_levels;
      no_counts = s.requires.no_boxes;
      no_vertices = s.requires.no_vertices;
      no_positions = s.requires.no_positions;
    }

returns : tie.Need-returns
returns c =
    let s = c.before.before.before.before.before.before.before.before.before.before.before.before.before.before.before.before.before.before.before.before.before.before.before.before.before.before.before.before.before.before.before.before.before.before.before.before in
    c.draw.ensures (plan_data s.args.plan s.args.v s.args.e) (rw c.wide-k.ensures (plan-lists s.args.plan (counts s) s.requires.plan))

pub draw_into_spec : {M : Type 1} → statement M
draw_into_spec =
    tie.close
    (tie.spec (λ c κs. search rules) array-share-prefix-sizes slice-aggregate-draw array-share-prefix-vias slice-aggregate-draw-2
    array-share-prefix-halves slice-aggregate-draw-3 array-share-prefix-uppers slice-aggregate-draw-4 array-share-prefix-lowers
    slice-aggregate-draw-5 array-share-prefix-ratings slice-aggregate-draw-6 draw-requires (λ c. search rules) (λ c. search rules)
    (λ c. search rules) (λ c. search rules) (λ c. search rules) (λ c. search rules) (λ c. search rules) returns)
