-- `text_read::form::segment_lines` meets its contract: the loop follows `many`: `SegmentsSoFar` says what was found and stored.
use mathlib.Core.Path.{◌∙◌}
use native.Mathlib.Omega.{arith}
use borrow.Author.Tests.{not-true, not-false}
use Rattle.text_scan.specs.inner.Scanned.{segment_of}
use Rattle.text_read.proofs.SegmentLines.{segments-none, segments-more, segments-end}
use Rattle.text_scan.proofs.Lines.{found, found-not}
use Rattle.text_read.proofs.form.segment_lines.Goals as goal

pub loop-s-init : goal.loop-s-init
loop-s-init c =
    let a = c.args in segments-none a.text.now a.from a.uppers.now a.lowers.now a.ratings.now c.requires

pub segment_at-s-requires : goal.segment_at-s-requires
segment_at-s-requires c = c.loop-s.invariant.reached.inside

pub returns-then-not-s : goal.returns-then-not-s
returns-then-not-s c =
    let a = c.args in
    segments-end a.text.now a.from a.uppers.now a.lowers.now a.ratings.now c.loop-s.invariant (found-not c.segment_at-s.ensures (not-true _ c.if-not-s.true))

pub overflow_add-count : goal.overflow_add-count
overflow_add-count c = omega (arith, c.loop-s.invariant.reached)

pub loop-s-smaller : goal.loop-s-smaller
loop-s-smaller c =
    let s = c.segment_at-s in
    omega (arith, c.loop-s.invariant.reached, s.ensures.inside, s.ensures.onward (not-false _ c.if-not-s.false))

pub loop-s-preserved : goal.loop-s-preserved
loop-s-preserved c =
    let a = c.args in
    let s = c.segment_at-s in
    let e = not-false _ c.if-not-s.false in
    segments-more a.text.now a.from a.uppers.now a.lowers.now a.ratings.now c.loop-s.invariant (segment_of s.result) s.result.next (found s.ensures e)
    (s.ensures.onward e) s.ensures.inside c.put.ensures c.put-in-loop-s.ensures (c.put-in-loop-s-2.ensures ∙ rw c.rating_of.ensures)
    (rw c.rating_in_limit-fit.ensures)
