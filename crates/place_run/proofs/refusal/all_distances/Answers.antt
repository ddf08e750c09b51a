use Rattle.std.proofs.Common.{rules, tests, ◌≡◌, ◌&&◌, List, ℕ, refl, ◌∙◌}
use Rattle.std.specs.List.{list_all}
use Rattle.std.proofs.lemmas.Iterator.{YieldsList-from_slice}
use Rattle.std.proofs.lemmas.Iterator.Search.{all_from_yields_List}
use Rattle.std.proofs.lemmas.List.Recursion.{same_from_clauses}
use Rattle.run.specs.Call.{is_distance, all_distances}
use Rattle.place_run.proofs.refusal.all_distances.Goals as goal

same : (xs : List ℕ) → list_all is_distance xs ≡ all_distances xs
unfolding all_distances
same = same_from_clauses (list_all is_distance) all_distances (λ x b. is_distance x && b) refl (λ _ _. refl) (λ _ _. refl)

pub returns : goal.returns
returns c =
    let xs = c.args.distances.now in
    all_from_yields_List is_distance _ _ _ c.all.ensures.ran (YieldsList-from_slice xs cc) (λ x b q k. search (rules, tests)) ∙ same xs
