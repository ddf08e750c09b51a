use mathlib.Core.Path.{refl, sym}
use Prim.Native.Nat.{◌-◌, ◌<◌}
use native.Mathlib.Omega.{arith}
use lib.ListN.{length}
use Rattle.marks.proofs.Laws.{ends-stand, vertex-is, segment-is}
use Rattle.marks.proofs.marks.mark_at.Goals as goal

pub returns-then-n-vias : goal.returns-then-n-vias
returns-then-n-vias c p d =
    let l = c.requires.lists in
    let here : c.args.n < length c.args.heights.now = omega (arith, l.standing.long, l.agreeing.positions) in
    rw (c.vertex_mark.ensures, c.point_at-at.ensures) (sym (vertex-is p _ _ _ _ _ _ c.args.n d (omega arith) here))

pub returns : goal.returns
returns c p d =
    let k = c.args.n - length c.args.vias.now in
    let ends = ends-stand c.requires.lists k (omega (arith, c.requires.number)) in
    let long = c.requires.lists.standing.long in
    rw c.segment_mark.ensures (sym (segment-is p _ _ _ _ _ _ c.args.n d k refl (omega arith) (omega (arith, ends.0, long)) (omega (arith, ends.1, long))))
