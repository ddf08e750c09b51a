use Rattle.std.proofs.Common.{rules, ◌∙◌, ap}
use Rattle.std.proofs.lemmas.Iterator.{YieldsList-from_slice}
use Rattle.std.proofs.lemmas.Iterator.Consumers.{fold_from_yields_List}
use Rattle.picture_names.specs.declared.types.Seen.TheVariants.{Start}
use Rattle.picture_names.specs.Chars.{seen_more, is_whole, is_name}
use Rattle.picture_names.proofs.CharLaws.{after_is}
use Rattle.picture_names.proofs.chars.is_name.Goals as goal

pub returns : goal.returns
unfolding is_name
returns c =
    let name = c.args.name.now in
    let e = fold_from_yields_List _ seen_more Start c.fold.result c.fold.ensures.ran (YieldsList-from_slice name cc) (λ s b t q k. search rules) in
    c.is_whole.ensures ∙ ap is_whole (e ∙ after_is Start name)
