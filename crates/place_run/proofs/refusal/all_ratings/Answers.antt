use Rattle.std.proofs.Common.{rules, tests, ◌≡◌, ◌&&◌, List, ℕ, refl, ◌∙◌}
use Rattle.std.specs.List.{list_all}
use Rattle.std.proofs.lemmas.Iterator.{YieldsList-from_slice}
use Rattle.std.proofs.lemmas.Iterator.Search.{all_from_yields_List}
use Rattle.std.proofs.lemmas.List.Recursion.{same_from_clauses}
use Rattle.ints.specs.Ratings.{is_rating, all_ratings}
use Rattle.place_run.proofs.refusal.all_ratings.Goals as goal

same : (xs : List ℕ) → list_all is_rating xs ≡ all_ratings xs
unfolding all_ratings
same = same_from_clauses (list_all is_rating) all_ratings (λ x b. is_rating x && b) refl (λ _ _. refl) (λ _ _. refl)

pub returns : goal.returns
returns c =
    let xs = c.args.ratings.now in
    all_from_yields_List is_rating _ _ _ c.all.ensures.ran (YieldsList-from_slice xs cc) (λ x b q k. search (rules, tests)) ∙ same xs
