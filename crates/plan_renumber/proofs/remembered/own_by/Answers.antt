use Rattle.std.proofs.Common.{rules, tests, ◌≡◌, Bool, ◌∙◌}
use Rattle.std.proofs.lemmas.Iterator.{YieldsList-from_slice}
use Rattle.std.proofs.lemmas.Iterator.Search.{all_from_yields_List}
use Rattle.plan.specs.Checks.{every}
use Rattle.plan.proofs.CountLaws.{list_all-every}
use Rattle.plan_renumber.proofs.Marks.{marked-own, own-sizes}
use Rattle.plan_renumber.proofs.remembered.own_by.Goals as goal

pub returns-then-mark : goal.returns-then-mark
returns-then-mark c =
    let seen = c.mark.new.seen in
    let id = λ (b : Bool). b in
    let e : c.all.result ≡ every id seen =
    all_from_yields_List id _ _ _ c.all.ensures.ran (YieldsList-from_slice seen (cc)) (λ x b q k. search (rules, tests)) ∙ list_all-every id seen in
    λ p n. e ∙ marked-own _ _ _ (c.mark.ensures.new c.if-mark.true) p (own-sizes p _ _ n) (rw n.sizes_are c.levels.ensures) (c.levels.auto.level ∙ c.requires.1.levels)
