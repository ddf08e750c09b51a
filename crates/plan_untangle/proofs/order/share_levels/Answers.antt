-- `plan_untangle::order::share_levels` meets its contract: the levels above l are rearranged.
use Prim.Native.Nat.{◌+◌}
use mathlib.Core.Path.{ap}
use native.Mathlib.Omega.{arith}
use Rattle.plan.proofs.LimitLaws.{limits}
use Rattle.plan_untangle.proofs.Levels.{rearrange-start, level-small, rearrange-sharable, rearrange-on, rearrange-end}
use Rattle.plan_untangle.proofs.order.share_levels.Goals as goal

pub loop-l-init : goal.loop-l-init
loop-l-init c =
    let args = c.args in
    let pre = c.requires in
    rearrange-start args.sizes.now args.turn.now args.upper.now args.order.now args.places.now args.codes.now pre.0

pub overflow_add-first : goal.overflow_add-first
overflow_add-first c =
    let args = c.args in
    let pre = c.requires in
    let loop = c.loop-l in
    let loop-test = c.loop-l-test in
    let wide = c.from-first in
    omega (arith, wide.ensures, level-small args.sizes.now args.turn.now args.upper.now args.order.now args.places.now args.codes.now pre.0 loop.order loop.places loop.codes loop.first loop.l loop.invariant)

pub overflow_add-end : goal.overflow_add-end
overflow_add-end c =
    let args = c.args in
    let pre = c.requires in
    let loop = c.loop-l in
    let wide = c.from-first in
    let wide2 = c.from in
    omega (arith, wide.ensures, wide2.ensures, level-small args.sizes.now args.turn.now args.upper.now args.order.now args.places.now args.codes.now pre.0 loop.order loop.places loop.codes loop.first loop.l loop.invariant)

pub overflow_cast-l : goal.overflow_cast-l
overflow_cast-l c =
    let pre = c.requires in
    omega (arith, c.loop-l-test.true, (limits pre.0.plan pre.0.tables.limits).levels_high, pre.0.tables.levels_are)

pub share_level-requires : goal.share_level-requires
share_level-requires c =
    let args = c.args in
    let pre = c.requires in
    let loop = c.loop-l in
    let wide = c.from-first in
    let wide2 = c.from in
    rearrange-sharable args.sizes.now args.turn.now args.upper.now args.order.now args.places.now args.codes.now pre.0 loop.order loop.places loop.codes loop.first loop.l loop.invariant _ _
    (ap (λ n. loop.first + n) wide.ensures) (ap (λ n. loop.first + wide.result + n) wide2.ensures) pre.1

pub loop-l-preserved : goal.loop-l-preserved
loop-l-preserved c =
    let args = c.args in
    let pre = c.requires in
    let loop = c.loop-l in
    let loop-test = c.loop-l-test in
    let wide = c.from-first in
    let share-level = c.share_level in
    rearrange-on args.sizes.now args.turn.now args.upper.now args.order.now args.places.now args.codes.now pre.0 loop.order loop.places loop.codes loop.first loop.l loop.invariant _ _ _ _ loop-test.true (ap (λ n. loop.first + n) wide.ensures)
    share-level.auto.order share-level.auto.places share-level.auto.codes share-level.ensures

pub returns : goal.returns
returns c =
    let args = c.args in
    let pre = c.requires in
    let loop = c.loop-l in
    let loop-test = c.loop-l-test in
    rearrange-end args.sizes.now args.turn.now args.upper.now args.order.now args.places.now args.codes.now pre.0 loop.order loop.places loop.codes loop.first loop.l loop.invariant loop-test.false

pub returns-2 : goal.returns-2
returns-2 c =
    let args = c.args in
    let pre = c.requires in
    let loop = c.loop-l in
    let share-level = c.share_level in
    rearrange-end args.sizes.now args.turn.now args.upper.now args.order.now args.places.now args.codes.now pre.0 _ _ _ _ _
    (rearrange-on args.sizes.now args.turn.now args.upper.now args.order.now args.places.now args.codes.now pre.0 loop.order loop.places loop.codes loop.first loop.l loop.invariant _ _ _ _ c.loop-l-test.true (ap (λ n. loop.first + n) c.from-first.ensures)
    share-level.auto.order share-level.auto.places share-level.auto.codes share-level.ensures)
    (omega arith)
