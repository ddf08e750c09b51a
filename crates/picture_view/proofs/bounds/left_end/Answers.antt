use Rattle.std.proofs.Common.{rules, ◌≡◌, ◌+◌, ◌-◌, length, map, ap, sym, ◌∙◌, ℤ, arith}
use mir.Syntax.{w64}
use mir.Val.{to_z, of_z}
use Rattle.ints.proofs.Laws.{back'}
use Rattle.ints.proofs.Reach.{within-at}
use Rattle.plan.specs.Plan.{numbers}
use Rattle.picture_view.specs.Measure.{least_of, left_edge, leftmost}
use Rattle.picture_view.proofs.MeasureLaws.{least-next, least-end, stored_at}
use Rattle.picture_view.proofs.bounds.left_end.Goals as goal

pub left_edge-least-requires : goal.left_edge-least-requires
left_edge-least-requires c = let xs = c.args.finals.now in rw (stored_at xs 0 c.requires.within) (within-at xs 0 c.requires.within)

pub loop-v-init : goal.loop-v-init
unfolding leftmost
loop-v-init c =
    let xs = c.args.finals.now in
    let first : to_z w64 (of_z w64 c.left_edge-least.result) ≡ left_edge c.args.halves.now xs 0 =
    back' c.left_edge-least.result c.left_edge-least.type_inv ∙ c.left_edge-least.ensures ∙ rw (stored_at xs 0 c.requires.within) in
    let k : length xs - 0 ≡ length xs = omega arith in
    rw (first, k)

pub left_edge-requires : goal.left_edge-requires
left_edge-requires c = let xs = c.args.finals.now in rw (stored_at xs c.loop-v.v c.requires.within) (within-at xs c.loop-v.v c.requires.within)

pub loop-v-preserved : goal.loop-v-preserved
loop-v-preserved c =
    let xs = c.args.finals.now in
    let l = c.loop-v in
    let e = left_edge c.args.halves.now xs in
    let n = length xs in
    let next : to_z w64 (of_z w64 c.left_edge.result) ≡ e l.v =
    back' c.left_edge.result c.left_edge.type_inv ∙ c.left_edge.ensures ∙ rw (stored_at xs l.v c.requires.within) in
    ap (λ (y : ℤ). least_of y (map e (numbers (l.v + 1) (n - (l.v + 1))))) (search rules) ∙ sym (least-next e (to_z w64 l.least-bits) l.v n c.loop-v-test.true) ∙ l.invariant

pub returns : goal.returns
returns c =
    let l = c.loop-v in
    sym (least-end (left_edge c.args.halves.now c.args.finals.now) (to_z w64 l.least-bits) l.v (length c.args.finals.now) (omega arith)) ∙ l.invariant
