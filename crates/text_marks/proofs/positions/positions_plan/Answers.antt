-- Preliminary positions at the front, final ones right after them.
use Rattle.std.proofs.Common.{arith, ◌≡◌, ℕ, ◌≤◌, length, Bool, List, refl, sym, ap, ◌∙◌}
use lib.ListN.{take, drop, replicate}
use lib.Seq.{length-take-le}
use lib.IntN.{pos}
use Rattle.ints.specs.Refusals.{gives}
use Rattle.ints.proofs.FrontLaws.{first-fit, first-is, first_count}
use Rattle.plan.specs.Plan.{vertex_count}
use Rattle.plan.proofs.HeldLaws.{held-bounds}
use Rattle.pass_draw.specs.inner.Made.{SomeRated}
use Rattle.sheet_fit.proofs.FitLaws.{fitted_short, fitted-long, writes}
use Rattle.text_marks.specs.Positions.{both_of}
use Rattle.text_marks.proofs.Shown.{both_long}
use Rattle.text_marks.proofs.Texts.{positions-of}
use Rattle.text_marks.proofs.TwoFronts.{second-long, two-written}
use Rattle.text_marks.proofs.positions.positions_plan.Goals as goal

few : {gap : ℕ} {sizes : List ℕ} {vias : List Bool} {halves uppers lowers ratings : List ℕ} → SomeRated gap sizes vias halves uppers lowers ratings → length vias ≤ 1024
few s = (held-bounds _ _ _ _ _ _ _ s.lists.lists).few

-- as many zeros as there are vertices
zeros : (v : ℕ) → v ≤ 1024 → length (take v (replicate 1024 (pos 0))) ≡ v
zeros v h = length-take-le v (replicate 1024 (pos 0)) h

pub returns-then-out-v : goal.returns-then-out-v
returns-then-out-v c p l =
    let b = c.args.out.now in
    writes (positions-of p b ∙ fitted_short (vertex_count p) (both_of p) b (omega (arith, both_long p l.lists.ok, ap length l.lists.vias_are, c.if-out-v.true)))
    (record { answered = refl; left = refl })

pub slice_bounds-finals-end : goal.slice_bounds-finals-end
slice_bounds-finals-end c = few c.requires

pub slice_bounds-draw_positions-end-3 : goal.slice_bounds-draw_positions-end-3
slice_bounds-draw_positions-end-3 c = sym (zeros _ (few c.requires))

pub draw_positions-requires : goal.draw_positions-requires
draw_positions-requires c = record {
  some = c.requires;
  preliminary_room = length-take-le _ c.args.out.now (omega (arith, c.if-out-v.false));
  final_room = zeros _ (few c.requires);
}

pub slice_bounds-finals-end-2 : goal.slice_bounds-finals-end-2
slice_bounds-finals-end-2 c =
    let d = c.draw_positions in
    let v = length c.args.vias.now in
    first-fit d.new.finals (drop v (replicate 1024 (pos 0))) v (d.auto.finals ∙ zeros v (few c.requires))

pub slice_bounds-copy_positions-end : goal.slice_bounds-copy_positions-end
slice_bounds-copy_positions-end c =
    let d = c.draw_positions in
    let v = length c.args.vias.now in
    first_count d.new.finals (drop v (replicate 1024 (pos 0))) v (d.auto.finals ∙ zeros v (few c.requires))

pub copy_positions-requires : goal.copy_positions-requires
copy_positions-requires c =
    let d = c.draw_positions in
    let b = c.args.out.now in
    let v = length c.args.vias.now in
    let n = d.auto.preliminary ∙ length-take-le v b (omega (arith, c.if-out-v.false)) in
    second-long d.new.preliminary b v n c.if-out-v.false ∙ first_count d.new.finals (drop v (replicate 1024 (pos 0))) v (d.auto.finals ∙ zeros v (few c.requires))

pub returns : goal.returns
returns c p l =
    let d = c.draw_positions in
    let b = c.args.out.now in
    let v = length c.args.vias.now in
    let m = d.ensures p l in
    let n = d.auto.preliminary ∙ length-take-le v b (omega (arith, c.if-out-v.false)) in
    let f = d.auto.finals ∙ zeros v (few c.requires) in
    writes (positions-of p b ∙ fitted-long (vertex_count p) (both_of p) b (omega (arith, both_long p l.lists.ok, ap length l.lists.vias_are, c.if-out-v.false))) (record {
      answered = ap gives (sym (ap length l.lists.vias_are));
      left = two-written d.new.preliminary d.new.finals c.copy_positions.new.to b v p n f
          (c.copy_positions.ensures ∙ first-is d.new.finals (drop v (replicate 1024 (pos 0))) v f) m.started m.ended;
    })
