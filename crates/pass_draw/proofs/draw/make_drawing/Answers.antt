use Rattle.std.proofs.Common.{◌∙◌}
use Rattle.pass_draw.proofs.MadeLaws.{done}
use Rattle.pass_draw.proofs.draw.make_drawing.Goals as goal

pub returns : goal.returns
returns c = λ p l. let from = c.preliminary_positions.ensures p l.lists in
    done from (c.three_passes-list.ensures p (record { lists = l.lists; ratings_are = l.ratings_are; preliminaries = c.copy_positions.ensures ∙ from })) l.lists
