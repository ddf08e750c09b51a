use Rattle.std.proofs.Common.{Bool, false, ℕ, List, map, get_or, ◌∙◌, ap}
use Rattle.plan_renumber.proofs.Arrays.{lists-anew}
use Rattle.plan_renumber.proofs.whole.renumber.Goals as goal

pub returns : goal.returns
returns c =
    let a = c.args in
    lists-anew a.m.now a.vias.now a.halves.now a.uppers.now a.lowers.now a.ratings.now _ _ _ _ _
    (c.gather_flags.ensures ∙ ap (λ (l : List Bool). map (λ v. get_or l v false) a.m.now) c.copy_to.ensures)
    (c.gather.ensures ∙ ap (λ (l : List ℕ). map (λ v. get_or l v 0) a.m.now) c.copy_to-2.ensures) c.move_segments.ensures
