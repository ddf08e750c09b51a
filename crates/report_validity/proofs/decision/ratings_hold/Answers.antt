use Rattle.std.proofs.Common.{rules, ◌≡◌, IsTrue, ◌↔◌, EachIndex, true, get_or}
use Rattle.ints.specs.Ratings.{is_rating}
use Rattle.ints.proofs.Ratings.{ratings-get, ratings-each}
use Rattle.report_validity.proofs.RunTests.{both_ways}
use Rattle.report_validity.proofs.decision.ratings_hold.Goals as goal

pub returns : goal.returns
returns c =
    let ws = c.args.ratings.now in
    let e : IsTrue c.all.result ↔ EachIndex ws (λ k. is_rating (get_or ws k 0) ≡ true) = search rules in
    both_ways _ _ (λ h. ratings-each ws (e.0 h)) (λ h. e.1 (λ k. ratings-get ws k h))
