use Rattle.std.proofs.Common.{rules, tests, ◌≡◌, ℕ, ltb, ◌∙◌}
use Rattle.std.specs.List.{prefix_len}
use Rattle.std.proofs.lemmas.Iterator.{YieldsList-from_slice}
use Rattle.std.proofs.lemmas.Iterator.Consumers.{count_from_yields_List}
use Rattle.std.proofs.lemmas.Iterator.Search.{YieldsList-from_take_while}
use Rattle.std.proofs.lemmas.List.Folds.{length-prefix_len}
use Rattle.plan_walks.proofs.WalkLaws.{ahead-long}
use Rattle.plan_walks.proofs.count_before.Goals as goal

pub returns : goal.returns
returns c =
    let xs = c.args.uppers.now in
    let end = c.args.end in
    let test = λ (u : ℕ). ltb u end in
    let e : c.count.result ≡ prefix_len test xs =
    count_from_yields_List c.take_while.result _ c.count.ensures.ran (YieldsList-from_take_while _ test (YieldsList-from_slice xs (cc)) c.take_while.ensures.closure c.take_while.ensures.done (λ x b q k. search (rules, tests))) ∙ length-prefix_len test xs in
    λ lowers long. e ∙ ahead-long end xs lowers long
