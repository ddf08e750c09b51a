-- `text_read::form::vertices` meets its contract: the loop follows `many`: `RowSoFar` says what was found and stored.
use native.Mathlib.Omega.{arith}
use borrow.Author.Tests.{not-true, not-false}
use Rattle.text_scan.specs.inner.Scanned.{vertex_of}
use Rattle.text_read.proofs.Rows.{row-none, row_more, row-end}
use Rattle.text_scan.proofs.Lines.{found, found-not}
use Rattle.text_read.proofs.form.vertices.Goals as goal

pub loop-v-init : goal.loop-v-init
loop-v-init c =
    let a = c.args in row-none a.text.now a.from a.first a.vias.now a.halves.now c.requires.0

pub vertex_at-v-requires : goal.vertex_at-v-requires
vertex_at-v-requires c = c.loop-v.invariant.reached.inside

pub returns-then-not-v : goal.returns-then-not-v
returns-then-not-v c =
    let a = c.args in row-end a.text.now a.from a.first a.vias.now a.halves.now c.loop-v.invariant _ (found-not c.vertex_at-v.ensures (not-true _ c.if-not-v.true))

pub overflow_add-first : goal.overflow_add-first
overflow_add-first c =
    omega (arith, c.loop-v.invariant.reached)

pub overflow_add-first-in-loop-v : goal.overflow_add-first-in-loop-v
overflow_add-first-in-loop-v c =
    omega (arith, c.loop-v.invariant.reached)

pub overflow_add-count : goal.overflow_add-count
overflow_add-count c =
    omega (arith, c.loop-v.invariant.reached)

pub loop-v-smaller : goal.loop-v-smaller
loop-v-smaller c =
    omega (arith, c.loop-v.invariant.reached, c.vertex_at-v.ensures.inside, c.vertex_at-v.ensures.onward (not-false _ c.if-not-v.false))

pub loop-v-preserved : goal.loop-v-preserved
loop-v-preserved c =
    let a = c.args in let v = c.vertex_at-v in
    let e = not-false _ c.if-not-v.false in
    row_more a.text.now a.from a.first a.vias.now a.halves.now c.loop-v.invariant (vertex_of v.result) v.result.next c.half_of.result
    (found v.ensures e) (v.ensures.onward e) v.ensures.inside c.half_of.ensures c.put.ensures c.put-in-loop-v.ensures (rw c.half_fits-fit.ensures)
