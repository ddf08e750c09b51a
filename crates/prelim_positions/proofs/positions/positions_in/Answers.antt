use Rattle.std.proofs.Common.{◌∙◌}
use Rattle.prelim_positions.proofs.PositionLaws.{both-sides, plan-within}
use Rattle.prelim_positions.proofs.positions.positions_in.Goals as goal

pub strands-requires-clause-within : goal.strands-requires-clause-within
strands-requires-clause-within c =
    let a = c.args in
    plan-within _ _ _ _ _ _ c.requires.some_plan

pub returns : goal.returns
returns c =
    let a = c.args in
    λ p l. c.subtract.ensures
    ∙ both-sides _ _ _ _ _ _ _ _ c.strands.ensures
    c.side.new.xs c.side-2.new.xs c.side.ensures c.side-2.ensures p l
