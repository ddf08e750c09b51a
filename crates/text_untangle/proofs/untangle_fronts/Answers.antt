-- The parts that are lent are the plan's lists, and the rest is as it was.
use Rattle.std.proofs.Common.{sym, ◌∙◌}
use lib.Seq.{length-take-le}
use Rattle.text_untangle.proofs.ArrayLaws.{rated-fronts, untangled-in}
use Rattle.text_untangle.proofs.untangle_fronts.Goals as goal

pub untangle-requires : goal.untangle-requires
untangle-requires c =
    let q = c.requires in
    let vias_long = length-take-le _ _ q.fronts.vias_reach in (
      record { plan = q.plan; lists = q.fronts.lists },
      record {
        halves_long = length-take-le _ _ q.fronts.halves_reach ∙ sym vias_long;
        numbers_long = length-take-le _ _ q.fronts.numbers_reach ∙ sym vias_long;
        rated = rated-fronts q.fronts;
      },
    )

pub returns : goal.returns
returns c p t =
    let a = c.args in
    let u = c.untangle in
    let k = u.auto in
    untangled-in p a.s a.sizes.now a.vias.now a.halves.now a.uppers.now a.lowers.now a.ratings.now a.numbers.now t _ _ _ _ _ _
    (u.ensures p t.lists t.halves_are t.ratings_are) k.vias k.halves k.uppers k.lowers k.ratings k.numbers
