use Rattle.std.proofs.Common.{◌∙◌, ap, sym, arith, length, length-take-le, replicate, ℕ, false}
use Rattle.std.proofs.lemmas.List.{take-replicate}
use Rattle.prelim_classes.proofs.StandLaws.{to-place, stand-is}
use Rattle.prelim_classes.proofs.stand.stand.Goals as goal

pub siblings-requires-clause-classes_len_bound : goal.siblings-requires-clause-classes_len_bound
siblings-requires-clause-classes_len_bound c =
    let p = c.requires.0 in
    (omega (arith, p.few, p.numbers), take-replicate (length c.args.next.now) 1024 2048 p.few ∙ ap (λ (m : ℕ). replicate m 2048) (sym p.numbers))

pub place-requires-clause-placeable : goal.place-requires-clause-placeable
place-requires-clause-placeable c =
    let p = c.requires.0 in
    to-place _ _ _ _ _ _ _ p _ _ _ (c.siblings.auto.sibling ∙ length-take-le _ (replicate 1024 2048) p.few) (take-replicate _ 1024 0 p.few) (take-replicate _ 1024 false p.few)

pub place-requires-clause-at_value : goal.place-requires-clause-at_value
place-requires-clause-at_value c =
    let p = c.requires.0 in
    (take-replicate _ 1024 0 p.few, take-replicate _ 1024 false p.few)

pub returns : goal.returns
returns c = stand-is _ _ _ _ _ _ _ c.requires.0 _ _ _ c.siblings.ensures c.place.ensures c.widen.ensures
