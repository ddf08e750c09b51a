use Rattle.std.proofs.Common.{rules, ◌≡◌, ◌<◌, ◌^◌, ◌∙◌, ap, arith, map, take, sum}
use Rattle.std.proofs.lemmas.List.{map-id}
use Rattle.report_validity.proofs.Walks.{same_sum, sum-parts}
use Rattle.report_validity.proofs.runs.vertices_before.Goals as goal

pub sum-requires-clause-fits : goal.sum-requires-clause-fits
sum-requires-clause-fits c =
    let ns = take c.args.n c.args.sizes.now in
    let h : sum ns < 2 ^ 64 = omega (arith, same_sum ns, sum-parts c.args.n c.args.sizes.now, c.requires.1) in
    grind (arith, rules, map-id)

pub returns : goal.returns
returns c =
    let ns = take c.args.n c.args.sizes.now in
    let e : c.sum.result ≡ sum (map (λ x. x) ns) = search rules in e ∙ ap sum (map-id ns) ∙ same_sum ns
