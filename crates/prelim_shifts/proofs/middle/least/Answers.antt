use Rattle.std.proofs.Common.{rules, ◌∙◌, EachIndex, get_or, ℤ, pos}
use Rattle.ints.specs.Ints.{◌⊑◌}
use Rattle.ints.proofs.Laws.{back'}
use Rattle.prelim_shifts.proofs.MiddleLaws.{least-is}
use Rattle.prelim_shifts.proofs.middle.least.Goals as goal

pub returns : goal.returns
returns c other =
    let xs = c.args.xs.now in
    let m = c.unwrap.result in
    let a : EachIndex xs (λ k. m ⊑ get_or xs k (pos 0)) = search rules in
    let b : (y : ℤ) → EachIndex xs (λ k. y ⊑ get_or xs k (pos 0)) → y ⊑ m = λ y h. search rules in
    back' m c.unwrap.type_inv ∙ least-is other m xs c.requires a b
