use Rattle.std.proofs.Common.{rules, tests, ◌≡◌, ◌&&◌, List, ℤ, refl, ◌∙◌}
use Rattle.std.specs.List.{list_all}
use Rattle.std.proofs.lemmas.Iterator.{YieldsList-from_slice}
use Rattle.std.proofs.lemmas.Iterator.Search.{all_from_yields_List}
use Rattle.std.proofs.lemmas.List.Recursion.{same_from_clauses}
use Rattle.ints.specs.Reach.{is_within, all_within}
use Rattle.ints.proofs.within.all_within.Goals as goal

same : (xs : List ℤ) → list_all is_within xs ≡ all_within xs
unfolding all_within
same = same_from_clauses (list_all is_within) all_within (λ x b. is_within x && b) refl (λ _ _. refl) (λ _ _. refl)

pub returns : goal.returns
returns c =
    let xs = c.args.positions.now in
    all_from_yields_List is_within _ _ _ c.all.ensures.ran (YieldsList-from_slice xs cc) (λ x b q k. search (rules, tests)) ∙ same xs
