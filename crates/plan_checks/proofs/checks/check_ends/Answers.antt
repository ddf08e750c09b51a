use Rattle.std.proofs.Common.{rules, tests, ◌≡◌, ℕ, ◌∙◌, sym}
use Rattle.std.specs.List.{list_all, zip}
use Rattle.std.proofs.lemmas.Iterator.{YieldsList-from_slice, YieldsList-from_zip}
use Rattle.std.proofs.lemmas.Iterator.Search.{all_from_yields_List}
use Rattle.plan.specs.inner.Graph.{segment, one_down}
use Rattle.plan_checks.proofs.SegmentLaws.{every-pairs, check3-same}
use Rattle.plan_checks.proofs.checks.check_ends.Goals as goal

pub returns : goal.returns
returns c =
    let level = c.args.level.now in
    let uppers = c.args.uppers.now in
    let lowers = c.args.lowers.now in
    let test = λ (p : ℕ × ℕ). one_down level (segment p.0 p.1) in
    let e : c.all.result ≡ list_all test (zip uppers lowers) =
    all_from_yields_List test c.all.new.self _ c.all.result c.all.ensures.ran (YieldsList-from_zip (YieldsList-from_slice uppers (cc)) (YieldsList-from_slice lowers (cc))) (λ x b q k. search (rules, tests)) in
    λ sizes vias w long. e ∙ every-pairs (one_down level) uppers lowers ∙ sym (check3-same sizes vias level w long uppers lowers)
