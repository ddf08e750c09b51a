use Rattle.std.proofs.Common.{rules, tests, ◌≡◌, ℕ, false, length, get_or, sym, ◌∙◌, arith}
use Rattle.std.specs.List.{list_all, range_with_len}
use Rattle.std.proofs.lemmas.Iterator.{YieldsList-from_range}
use Rattle.std.proofs.lemmas.Iterator.Search.{all_from_yields_List}
use Rattle.plan.specs.inner.Graph.{through}
use Rattle.plan.proofs.CountLaws.{check5-same, through-all}
use Rattle.plan_checks.proofs.vias.check_vias.Goals as goal

pub returns : goal.returns
returns c =
    let vias = c.args.vias.now in
    let up = c.count.new.counts in
    let down = c.count-2.new.counts in
    let test = λ (v : ℕ). through (get_or vias v false) (get_or up v 0) (get_or down v 0) in
    let e : c.all.result ≡ list_all test (range_with_len 0 (length vias)) =
    all_from_yields_List test c.all.new.self _ c.all.result c.all.ensures.ran (YieldsList-from_range 0 (length vias) (length vias) (search rules) (omega arith)) (λ x b q k. search (rules, tests)) in
    λ sizes. e ∙ through-all vias c.args.uppers.now c.args.lowers.now _ up down c.count.ensures c.count-2.ensures c.requires.ends 0 (length vias) (omega arith)
    ∙ sym (check5-same vias c.args.uppers.now c.args.lowers.now sizes)
