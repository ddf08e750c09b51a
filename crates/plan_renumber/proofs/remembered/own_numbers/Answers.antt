use Rattle.std.proofs.Common.{length}
use Rattle.std.proofs.lemmas.List.{length-take-le}
use Rattle.plan.specs.Limits.{max_vertices}
use Rattle.plan_renumber.proofs.Marks.{none-set}
use Rattle.plan_renumber.proofs.remembered.own_numbers.Goals as goal

pub own_by-requires : goal.own_by-requires
own_by-requires c =
    (c.requires, record { levels = length-take-le _ _ c.requires.vertices; long = length-take-le _ _ c.requires.vertices; none = λ v. none-set (length c.args.numbers.now) max_vertices v })
