use Rattle.std.proofs.Common.{◌≡◌, length, sym, ◌∙◌}
use Rattle.std.proofs.lemmas.List.{length-take-le, take_at}
use Rattle.plan_checks.proofs.HeightLaws.{are-levels, heights-of}
use Rattle.plan_checks.proofs.levels.heights.Goals as goal

pub raise-requires : goal.raise-requires
raise-requires c =
    let long : length c.levels.new.level ≡ length c.args.out.now = c.levels.auto.level ∙ length-take-le _ _ c.requires.1 in
    rw (take_at _ _ _ long) (are-levels c.args.spacing c.args.sizes.now c.levels.new.level c.levels.ensures c.requires.0, long)

pub returns : goal.returns
returns c =
    let long : length c.levels.new.level ≡ length c.args.out.now = c.levels.auto.level ∙ length-take-le _ _ c.requires.1 in
    heights-of c.args.spacing c.args.sizes.now c.levels.new.level c.levels.ensures c.raise.new.out
    (c.raise.auto.out ∙ sym long) (rw (take_at _ _ _ long) at c.raise.ensures)
