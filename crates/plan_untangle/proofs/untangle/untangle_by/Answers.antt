-- `plan_untangle::untangle::untangle_by` meets its contract: the order is found, and the plan numbered anew by it.
use Rattle.plan_untangle.proofs.Arrays.{renumberable, untangles}
use Rattle.plan_untangle.proofs.untangle.untangle_by.Goals as goal

pub order-requires : goal.order-requires
order-requires c = let pre = c.requires in (pre.0, pre.1.tables)

pub renumber-requires : goal.renumber-requires
renumber-requires c =
    let pre = c.requires in
    let order = c.order in
    let a = c.args in
    renumberable a.sizes.now a.vias.now a.halves.now a.uppers.now a.lowers.now a.ratings.now a.numbers.now a.turn.now a.upper.now
    a.places.now a.codes.now a.keys.now a.flags.now pre.0 pre.1 _ _ _
    order.ensures order.auto.turn order.auto.places

pub returns : goal.returns
returns c =
    let order = c.order in
    let renumber = c.renumber in
    let a = c.args in
    λ p t h r. untangles p a.sizes.now a.vias.now a.halves.now a.uppers.now a.lowers.now a.ratings.now t h r _ (order.ensures p t) _ _ _ _ _ renumber.ensures
