-- The ratings between the sums that it fills in are those that are handed in.
use Rattle.std.proofs.Common.{arith, ◌≡◌, ◌∙◌, ap, length}
use Rattle.run_columns.specs.inner.Sums.{ratings_between}
use Rattle.run_halves.proofs.Middles.{sum-most}
use Rattle.place_run.proofs.Taken.{taken}
use Rattle.place_run.proofs.Summed.{sums-between}
use Rattle.place_run.proofs.call.place_summed.Goals as goal

pub fill_offsets-requires : goal.fill_offsets-requires
fill_offsets-requires c = let t = taken _ _ _ _ _ _ _ _ c.requires.answer_value in omega (arith, sum-most c.args.ratings.now t.rated, t.ratings, t.neighbours)

pub place-requires-clause-answer_value : goal.place-requires-clause-answer_value
place-requires-clause-answer_value c =
    let e : ratings_between c.fill_offsets.new.offsets ≡ c.args.ratings.now = ap ratings_between c.fill_offsets.ensures ∙ sums-between c.args.ratings.now (length c.args.sums.now) c.requires.sums_len in
    rw e c.requires.answer_value

pub place-requires-clause-sums_len : goal.place-requires-clause-sums_len
place-requires-clause-sums_len c = let t = taken _ _ _ _ _ _ _ _ c.requires.answer_value in omega (arith, c.fill_offsets.auto.offsets, c.requires.sums_len, t.ratings)

pub returns : goal.returns
returns c =
    let e : ratings_between c.fill_offsets.new.offsets ≡ c.args.ratings.now = ap ratings_between c.fill_offsets.ensures ∙ sums-between c.args.ratings.now (length c.args.sums.now) c.requires.sums_len in
    rw e at c.place.ensures
