use Rattle.std.proofs.Common.{rules, ◌≡◌, ◌+◌, ◌-◌, length, map, ap, sym, ◌∙◌, ℤ, arith}
use mir.Syntax.{w64}
use mir.Val.{to_z, of_z}
use Rattle.ints.specs.Ints.{max_z}
use Rattle.ints.proofs.Laws.{back'}
use Rattle.ints.proofs.Reach.{within-at}
use Rattle.plan.specs.Plan.{numbers}
use Rattle.picture_view.specs.Measure.{most_of, right_edge, rightmost}
use Rattle.picture_view.proofs.MeasureLaws.{most-next, most-end, stored_at}
use Rattle.picture_view.proofs.bounds.right_end.Goals as goal

pub right_edge-most-requires : goal.right_edge-most-requires
right_edge-most-requires c = let xs = c.args.finals.now in rw (stored_at xs 0 c.requires.within) (within-at xs 0 c.requires.within)

pub loop-v-init : goal.loop-v-init
unfolding rightmost
loop-v-init c =
    let xs = c.args.finals.now in
    let first : to_z w64 (of_z w64 c.right_edge-most.result) ≡ right_edge c.args.halves.now xs 0 =
    back' c.right_edge-most.result c.right_edge-most.type_inv ∙ c.right_edge-most.ensures ∙ rw (stored_at xs 0 c.requires.within) in
    let k : length xs - 0 ≡ length xs = omega arith in
    rw (first, k)

pub right_edge-requires : goal.right_edge-requires
right_edge-requires c = let xs = c.args.finals.now in rw (stored_at xs c.loop-v.v c.requires.within) (within-at xs c.loop-v.v c.requires.within)

pub loop-v-preserved : goal.loop-v-preserved
loop-v-preserved c =
    let xs = c.args.finals.now in
    let l = c.loop-v in
    let e = right_edge c.args.halves.now xs in
    let n = length xs in
    let next : to_z w64 (of_z w64 c.right_edge.result) ≡ e l.v =
    back' c.right_edge.result c.right_edge.type_inv ∙ c.right_edge.ensures ∙ rw (stored_at xs l.v c.requires.within) in
    let greater : c.max-most.result ≡ max_z (to_z w64 l.most-bits) (to_z w64 (of_z w64 c.right_edge.result)) = search rules in
    let now : to_z w64 (of_z w64 c.max-most.result) ≡ max_z (to_z w64 l.most-bits) (e l.v) =
    back' c.max-most.result c.max-most.type_inv ∙ greater ∙ ap (λ (y : ℤ). max_z (to_z w64 l.most-bits) y) next in
    ap (λ (y : ℤ). most_of y (map e (numbers (l.v + 1) (n - (l.v + 1))))) now ∙ sym (most-next e (to_z w64 l.most-bits) l.v n c.loop-v-test.true) ∙ l.invariant

pub returns : goal.returns
returns c =
    let l = c.loop-v in
    sym (most-end (right_edge c.args.halves.now c.args.finals.now) (to_z w64 l.most-bits) l.v (length c.args.finals.now) (omega arith)) ∙ l.invariant
