use Rattle.std.proofs.Common.{◌≡◌, sym, ◌∙◌, ap, max}
use Rattle.std.specs.Option.{unwrap_or}
use Rattle.std.specs.List.{reduce}
use Rattle.std.proofs.lemmas.Iterator.{YieldsList-from_slice}
use Rattle.std.proofs.lemmas.Iterator.Adapters.{option_map_id}
use Rattle.std.proofs.lemmas.Iterator.Consumers.{max_from_yields_List, YieldsList-from_copied}
use Rattle.picture_view.proofs.MeasureLaws.{greatest_is}
use Rattle.picture_view.proofs.bounds.greatest_half.Goals as goal

pub returns : goal.returns
returns c =
    let hs = c.args.halves.now in
    let e : c.max.result ≡ reduce max hs = sym (option_map_id _) ∙ max_from_yields_List _ _ c.max.ensures.ran (YieldsList-from_copied (YieldsList-from_slice hs cc)) in
    c.unwrap_or.ensures ∙ ap (λ r. unwrap_or r 0) e ∙ greatest_is hs
