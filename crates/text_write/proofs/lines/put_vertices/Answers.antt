use Rattle.text_write.proofs.Written.{wrote_none}
use Rattle.text_write.proofs.LineLaws.{row-none, vertex-room, vertex-more}
use Rattle.text_write.specs.inner.Data.{vertices_of}
use Prim.Native.Nat.{◌+◌, ◌-◌}
use native.Mathlib.Omega.{arith}
use mathlib.Core.Path.{◌≡◌}
use Rattle.text_write.proofs.lines.put_vertices.Goals as goal

pub loop-v-init : goal.loop-v-init
loop-v-init c =
    let z : c.args.first - c.args.first ≡ 0 = omega arith in
    rw (z, row-none (vertices_of c.args.vias.now c.args.halves.now) c.args.first) (wrote_none c.args.out.now c.args.from)

pub put_vertex-at-requires : goal.put_vertex-at-requires
put_vertex-at-requires c =
    let a = c.args in
    let l = c.loop-v in
    let e : a.first + (l.v - a.first) ≡ l.v = omega arith in
    rw e at (vertex-room a.vias.now a.halves.now a.first (l.v - a.first) a.count (omega arith) c.requires.2 l.invariant)

pub loop-v-preserved : goal.loop-v-preserved
loop-v-preserved c =
    let a = c.args in
    let l = c.loop-v in
    let e : a.first + (l.v - a.first) ≡ l.v = omega arith in
    let m : l.v + 1 - a.first ≡ l.v - a.first + 1 = omega arith in
    rw m (vertex-more a.vias.now a.halves.now a.first (l.v - a.first) l.invariant (rw e c.put_vertex-at.ensures))
