use Rattle.std.proofs.Common.{◌∙◌, sym, arith, map, pos}
use Rattle.std.proofs.Math.ListN.{length-map}
use Rattle.std.proofs.lemmas.List.{same_lists, get_or-map, get_or_default}
use Rattle.prelim_classes.proofs.stand.widen.Goals as goal

pub returns : goal.returns
returns c =
    let xs = c.loop-v.xs in
    let at = c.args.at.now in
    same_lists xs (map pos at) (omega (arith, length-map at pos, c.loop-v.auto.xs, c.requires))
    (λ k d h. get_or_default xs k d (pos 0) h ∙ c.loop-v.invariant k (omega arith) ∙ sym (get_or-map pos at k 0 d (omega (arith, c.loop-v.auto.xs, c.requires))))
