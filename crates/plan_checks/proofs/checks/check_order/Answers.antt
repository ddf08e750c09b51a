use Rattle.std.proofs.Common.{◌≡◌, ◌+◌, ◌-◌, sym, ◌∙◌, arith}
use Rattle.plan.specs.Segments.{segments_of}
use Rattle.plan.specs.Checks.{check4}
use Rattle.plan_checks.proofs.SegmentLaws.{order-on, order-stop, order-end}
use Rattle.plan_checks.proofs.checks.check_order.Goals as goal

pub returns-then-not-comes_before : goal.returns-then-not-comes_before
unfolding check4 segments_of
returns-then-not-comes_before c =
    let l = c.loop-i in
    let i : l.i - 1 + 1 ≡ l.i = omega arith in
    let descends = sym c.comes_before.ensures ∙ c.if-not-comes_before.true in
    λ sizes vias. sym (order-stop c.args.uppers.now c.args.lowers.now (l.i - 1) c.requires (omega arith) (rw i descends)) ∙ l.invariant

pub loop-i-preserved : goal.loop-i-preserved
loop-i-preserved c =
    let l = c.loop-i in
    let i : l.i - 1 + 1 ≡ l.i = omega arith in
    let j : l.i + 1 - 1 ≡ l.i = omega arith in
    let rises = sym c.comes_before.ensures ∙ c.if-not-comes_before.false in
    let on = order-on c.args.uppers.now c.args.lowers.now (l.i - 1) c.requires (omega arith) (rw i rises) in
    rw j (sym (rw i at on) ∙ l.invariant)

pub returns : goal.returns
unfolding check4 segments_of
returns c =
    let l = c.loop-i in
    λ sizes vias. sym (order-end c.args.uppers.now c.args.lowers.now (l.i - 1) c.requires (omega arith)) ∙ l.invariant
