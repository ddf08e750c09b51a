use Rattle.std.proofs.Common.{arith, ◌≤◌, ◌<◌, length}
use Rattle.place_run.proofs.Taken.{taken}
use Rattle.place_run.proofs.call.place_rated.Goals as goal

pub place_in-requires-else-n-lt-SOME-clause-few : goal.place_in-requires-else-n-lt-SOME-clause-few
place_in-requires-else-n-lt-SOME-clause-few c = let t = taken _ _ _ _ _ _ _ _ c.requires in
    let few : length c.args.ratings.now < 2049 = omega (arith, t.ratings, t.neighbours) in
    let most : 2049 ≤ 2049 = omega arith in (few, most)
