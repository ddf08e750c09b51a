use Rattle.std.proofs.Common.{rules, ◌≡◌, map, sum, refl, sym, ◌∙◌, ap}
use Rattle.std.proofs.lemmas.List.{map-id}
use Rattle.std.proofs.lemmas.List.Recursion.{is_sum_by}
use Rattle.ints.specs.Lists.{sum as sum_of}
use Rattle.ints.proofs.total.Goals as goal

pub returns : goal.returns
unfolding sum_of
returns c =
    let xs = c.args.xs.now in
    let e : c.sum.result ≡ sum (map (λ x. x) xs) = search rules in
    e ∙ ap sum (map-id xs) ∙ sym (is_sum_by sum_of (λ x. x) refl (λ _ _. refl) xs)
