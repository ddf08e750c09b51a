use Rattle.std.proofs.Common.{◌∙◌, sym, ap, arith, length}
use Rattle.std.proofs.Math.ListN.{length-replicate}
use Rattle.prelim_classes.proofs.StrungLaws.{ready}
use Rattle.prelim_positions.proofs.SideLaws.{classed, order_below, to-stand, to-shift, side-is, spread-start}
use Rattle.prelim_positions.proofs.side.side.Goals as goal

pub arrange-requires : goal.arrange-requires
arrange-requires c =
    let f = c.requires.side_room in
    let r = ready _ _ _ _ _ _ _ c.requires.some_strung in
    (r.vertices ∙ sym f.orders, omega (arith, f.orders, r.few), f.rights ∙ sym f.orders)

pub class-requires-clause-classable : goal.class-requires-clause-classable
class-requires-clause-classable c =
    let a = c.args in
    let f = c.requires.side_room in
    let r = ready _ _ _ _ _ _ _ c.requires.some_strung in
    let lo = c.arrange.auto.order ∙ f.orders in
    let below = order_below _ _ _ _ _ _ _ r a.reversed c.arrange.new.order c.arrange.new.right c.arrange.ensures.0 lo in
    record { rising = r.strung.rising; long = r.strung.long; tops = r.strung.tops; vertices = below; marks = ap length f.unclassed ∙ length-replicate (length a.next.now) 0 }

pub class-requires-clause-sizes_value : goal.class-requires-clause-sizes_value
class-requires-clause-sizes_value c =
    let f = c.requires.side_room in
    let r = ready _ _ _ _ _ _ _ c.requires.some_strung in
    (r.vertices ∙ sym (c.arrange.auto.order ∙ f.orders), r.levels)

pub stand-requires : goal.stand-requires
stand-requires c =
    let a = c.args in
    let f = c.requires.side_room in
    let r = ready _ _ _ _ _ _ _ c.requires.some_strung in
    let lc = rw (f.unclassed, length-replicate) at c.class.auto.classes in (
      to-stand _ _ _ _ _ _ _ r a.reversed c.arrange.new.order c.arrange.new.right c.arrange.ensures.0 (c.arrange.auto.order ∙ f.orders)
          c.class.new.classes (c.arrange.auto.right ∙ f.rights) lc,
      f.places,
    )

pub shift-requires-clause-shiftable : goal.shift-requires-clause-shiftable
shift-requires-clause-shiftable c =
    let a = c.args in
    let f = c.requires.side_room in
    let r = ready _ _ _ _ _ _ _ c.requires.some_strung in
    let order = c.arrange.new.order in
    let right = c.arrange.new.right in
    let classes = c.class.new.classes in
    let lc = rw (f.unclassed, length-replicate) at c.class.auto.classes in
    let most = classed _ _ _ _ _ _ _ r order classes (rw f.unclassed at c.class.ensures) in
    to-shift _ _ _ _ _ _ _ r a.reversed order right c.arrange.ensures.0 (c.arrange.auto.order ∙ f.orders) classes (c.arrange.auto.right ∙ f.rights) lc most

pub shift-requires-clause-levels_le_max_levels : goal.shift-requires-clause-levels_le_max_levels
shift-requires-clause-levels_le_max_levels c =
    let a = c.args in
    let f = c.requires.side_room in
    let r = ready _ _ _ _ _ _ _ c.requires.some_strung in
    let lc = rw (f.unclassed, length-replicate) at c.class.auto.classes in
    (r.levels, c.stand.auto.xs ∙ f.places ∙ sym lc, spread-start _ _ _ _ _ _ _ _ c.stand.ensures)

pub returns : goal.returns
returns c =
    let a = c.args in
    let f = c.requires.side_room in
    let r = ready _ _ _ _ _ _ _ c.requires.some_strung in
    let order = c.arrange.new.order in
    let right = c.arrange.new.right in
    let classes = c.class.new.classes in
    let lc = rw (f.unclassed, length-replicate) at c.class.auto.classes in
    side-is _ _ _ _ _ _ _ r a.reversed order right c.arrange.ensures.0 (c.arrange.auto.order ∙ f.orders) classes (c.arrange.auto.right ∙ f.rights) lc
    c.stand.new.xs c.shift.new.xs c.arrange.ensures.1 (rw f.unclassed at c.class.ensures) c.stand.ensures c.shift.ensures
