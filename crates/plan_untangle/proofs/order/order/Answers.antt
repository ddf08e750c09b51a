-- `plan_untangle::order::order` meets its contract: each call hands on what the next asks.
use mathlib.Core.Path.{◌∙◌}
use native.Mathlib.Omega.{arith}
use Rattle.plan_untangle.proofs.Whole.{some-levels, some-few, endable, turnable, made, all_made}
use Rattle.plan_untangle.proofs.order.order.Goals as goal

pub levels-requires : goal.levels-requires
levels-requires c =
    let pre = c.requires in
    let a = c.args in
    some-levels a.sizes.now a.vias.now a.uppers.now a.lowers.now a.order.now a.turn.now a.upper.now a.places.now a.codes.now pre.0 pre.1

pub count_up-requires : goal.count_up-requires
count_up-requires c =
    let pre = c.requires in
    let a = c.args in
    omega (arith, some-few a.sizes.now a.vias.now a.uppers.now a.lowers.now a.order.now a.turn.now a.upper.now a.places.now a.codes.now pre.0 pre.1, pre.1.uppers_long)

pub upper_ends-requires : goal.upper_ends-requires
upper_ends-requires c =
    let pre = c.requires in
    let count-up = c.count_up in
    let a = c.args in
    endable a.sizes.now a.vias.now a.uppers.now a.lowers.now a.order.now a.turn.now a.upper.now a.places.now a.codes.now pre.0 pre.1 count-up.new.out count-up.ensures

pub set_turns-requires : goal.set_turns-requires
set_turns-requires c =
    let pre = c.requires in
    let levels = c.levels in
    let upper-ends = c.upper_ends in
    let count-up = c.count_up in
    let a = c.args in
    turnable a.sizes.now a.vias.now a.uppers.now a.lowers.now a.order.now a.turn.now a.upper.now a.places.now a.codes.now pre.0 pre.1 levels.new.level upper-ends.new.upper levels.auto.level (upper-ends.auto.upper ∙ count-up.auto.out) upper-ends.ensures

pub count_up-requires-2 : goal.count_up-requires-2
count_up-requires-2 c =
    let pre = c.requires in
    let a = c.args in
    omega (arith, some-few a.sizes.now a.vias.now a.uppers.now a.lowers.now a.order.now a.turn.now a.upper.now a.places.now a.codes.now pre.0 pre.1, pre.1.order_long)

pub share_levels-requires : goal.share_levels-requires
share_levels-requires c =
    let pre = c.requires in
    let levels = c.levels in
    let upper-ends = c.upper_ends in
    let set-turns = c.set_turns in
    let count-up2 = c.count_up-2 in
    let count-up = c.count_up in
    let a = c.args in
    all_made a.sizes.now a.vias.now a.uppers.now a.lowers.now a.order.now a.turn.now a.upper.now a.places.now a.codes.now pre.0 pre.1 levels.new.level upper-ends.new.upper set-turns.new.turn count-up2.new.out levels.ensures levels.auto.level
    (upper-ends.auto.upper ∙ count-up.auto.out) upper-ends.ensures set-turns.ensures set-turns.auto.turn count-up2.ensures

pub returns : goal.returns
returns c =
    let share-levels = c.share_levels in
    let pre = c.requires in
    let levels = c.levels in
    let upper-ends = c.upper_ends in
    let set-turns = c.set_turns in
    let count-up2 = c.count_up-2 in
    let count-up = c.count_up in
    let a = c.args in
    λ p t. share-levels.ensures p (made a.sizes.now a.vias.now a.uppers.now a.lowers.now a.order.now a.turn.now a.upper.now a.places.now a.codes.now pre.0 pre.1 levels.new.level upper-ends.new.upper set-turns.new.turn count-up2.new.out levels.ensures levels.auto.level
    (upper-ends.auto.upper ∙ count-up.auto.out) upper-ends.ensures set-turns.ensures set-turns.auto.turn count-up2.ensures p t)
