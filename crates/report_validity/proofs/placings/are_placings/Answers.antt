use Rattle.std.proofs.Common.{◌≡◌, ◌+◌, ◌-◌, get_or, sym, ◌∙◌, arith}
use Rattle.ints.proofs.Lists.{sum-on}
use Rattle.report_validity.proofs.PlacingTests.{placings-on, placings-stop, placings-end}
use Rattle.report_validity.proofs.placings.are_placings.Goals as goal

pub slice_bounds-is_placing-end : goal.slice_bounds-is_placing-end
slice_bounds-is_placing-end c = let l = c.loop-i in omega (arith, c.from.ensures, l.invariant.0, c.requires.3, sum-on c.args.counts.now l.i (omega arith))

pub returns-then-not-is_placing : goal.returns-then-not-is_placing
returns-then-not-is_placing c =
    let a = c.args in
    let l = c.loop-i in
    let n : l.at + c.from.result - l.at ≡ get_or a.counts.now l.i 0 = omega (arith, c.from.ensures) in
    λ p o. sym (placings-stop p a.passes.now a.levels.now a.counts.now a.vertices.now l.i l.at c.requires.1 c.requires.2 c.loop-i-test.true
    (sym (rw n at (c.is_placing.ensures p o)) ∙ c.if-not-is_placing.true))
    ∙ l.invariant.1 p o

pub loop-i-preserved : goal.loop-i-preserved
loop-i-preserved c =
    let a = c.args in
    let l = c.loop-i in
    let n : l.at + c.from.result - l.at ≡ get_or a.counts.now l.i 0 = omega (arith, c.from.ensures) in (
      omega (arith, c.from.ensures, sum-on a.counts.now l.i (omega arith)),
      λ p o. rw c.from.ensures (sym (placings-on p a.passes.now a.levels.now a.counts.now a.vertices.now l.i l.at c.requires.1 c.requires.2 c.loop-i-test.true
          (sym (rw n at (c.is_placing.ensures p o)) ∙ c.if-not-is_placing.false))
          ∙ l.invariant.1 p o),
    )

pub returns : goal.returns
returns c =
    let a = c.args in
    let l = c.loop-i in
    λ p o. sym (placings-end p a.passes.now a.levels.now a.counts.now a.vertices.now l.i l.at c.requires.1 c.requires.2 (omega arith)) ∙ l.invariant.1 p o
