-- `sheet_draw::stored::draw_plan` meets its contract: the drawing lies in new arrays, 0 beyond it.
use mathlib.Core.Path.{◌≡◌, refl, sym}
use borrow.Author.Rules.{rules}
use lib.ListN.{length, take, replicate}
use lib.Seq.{length-take-le}
use lib.IntN.{pos}
use Rattle.sheet_data.specs.inner.Parts.{plan_with}
use Rattle.sheet_data.proofs.Cuts.{PlanArrays, PlanCut, plan-cut}
use Rattle.sheet_data.proofs.ReadBack.{preliminary-of, final-of}
use Rattle.sheet_draw.proofs.NewLaws.{new_is, draws}
use Rattle.sheet_draw.proofs.stored.draw_plan.Statement.{statement}
use Rattle.sheet_draw.proofs.stored.draw_plan.Tie as tie

plan-arrays : (c : tie.Start) → PlanArrays c.args.plan
plan-arrays c = record { sizes = search rules; vias = search rules; halves = search rules; uppers = search rules; lowers = search rules; ratings = search rules }

of-plan : (c : tie.Start) → PlanCut c.args.plan c.args.counts
of-plan c = plan-cut (plan-arrays c) c.args.counts c.requires

-- as many zeros as there are vertices
zeros : (c : tie.Start) → length (take c.args.counts.vertices (replicate 1024 (pos 0))) ≡ c.args.counts.vertices
zeros c = length-take-le c.args.counts.vertices (replicate 1024 (pos 0)) (of-plan c).few

array-borrow-prefix-preliminary : tie.Need-slice_bounds-preliminary-end
array-borrow-prefix-preliminary c = (of-plan c).few

slice-aggregate-draw-into : tie.Need-slice_bounds-draw_into-end
slice-aggregate-draw-into c = sym (zeros c.before)

array-borrow-prefix-finals : tie.Need-slice_bounds-finals-end
array-borrow-prefix-finals c = (of-plan c.before).few

slice-aggregate-draw-into-2 : tie.Need-slice_bounds-draw_into-end-2
slice-aggregate-draw-into-2 c = sym (zeros c.before.before)

draw-into-requires : tie.Need-draw_into-placings-requires
draw-into-requires c κs =
    let s = c.before.before.before.before.before.before.before in
    record {
      plan = s.requires;
      preliminary_room = zeros s;
      final_room = zeros s;
      no_passes = refl;
      no_levels = refl;
      no_boxes = refl;
      no_vertices = refl;
      no_positions = refl;
    }

returns : tie.Need-returns
returns c =
    let s = c.before.before.before.before.before.before.before.before.before.before.before.before.before.before.before in
    let a = s.args in
    draws a.plan (plan-arrays s) a.counts s.requires _
    (new_is (plan_with a.plan a.counts) a.counts.vertices _ _ _ _ _ _ _ _ (of-plan s).few (preliminary-of a.plan (plan-arrays s) a.counts.vertices a.counts.segments s.requires) (final-of a.plan (plan-arrays s) a.counts.vertices a.counts.segments s.requires)
    c.draw_into-placings.ensures)

pub draw_plan_spec : {M : Type 1} → statement M
draw_plan_spec =
    tie.close
    (tie.spec array-borrow-prefix-preliminary slice-aggregate-draw-into array-borrow-prefix-finals slice-aggregate-draw-into-2
    (λ c. search rules) (λ c. search rules) (λ c. search rules) (λ c. search rules) (λ c. search rules) draw-into-requires
    returns)
