use Rattle.std.proofs.Common.{rules, arith, ◌≡◌, ◌<◌, map, sum, refl, sym, ◌∙◌, ap}
use Rattle.std.proofs.lemmas.List.{map-id}
use Rattle.std.proofs.lemmas.List.Recursion.{is_sum_by}
use Rattle.ints.specs.Lists.{sum as sum_of}
use Rattle.run_halves.proofs.halves.total.Goals as goal

pub sum-requires-clause-fits : goal.sum-requires-clause-fits
unfolding sum_of
sum-requires-clause-fits c =
    let xs = c.args.counts.now in
    let h : sum xs < 18446744073709551616 = omega (arith, c.requires, is_sum_by sum_of (λ x. x) refl (λ _ _. refl) xs) in
    grind (arith, rules, map-id)

pub returns : goal.returns
unfolding sum_of
returns c =
    let xs = c.args.counts.now in
    let e : c.sum.result ≡ sum (map (λ x. x) xs) = search rules in
    e ∙ ap sum (map-id xs) ∙ sym (is_sum_by sum_of (λ x. x) refl (λ _ _. refl) xs)
