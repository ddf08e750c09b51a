-- By its two tests, and the walk from that level.
use Rattle.std.proofs.Common.{◌≡◌, ap, ◌∙◌}
use Rattle.ints.specs.Refusals.{gives}
use Rattle.text_walk.proofs.WalkedLaws.{above-all, below_all, between}
use Rattle.text_walk.proofs.walk_plan.Goals as goal

pub returns-then-l-eq0 : goal.returns-then-l-eq0
returns-then-l-eq0 c = above-all _ _ c.if-l-eq0.true

pub returns-then-sizes-l : goal.returns-then-sizes-l
returns-then-sizes-l c = below_all _ _ c.if-sizes-l.true

pub returns : goal.returns
returns c = ap gives (c.walk_from.ensures c.requires.2) ∙ between _ _ c.if-l-eq0.false c.if-sizes-l.false
