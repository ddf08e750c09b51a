use Rattle.std.proofs.Common.{arith, ◌≡◌, ◌∙◌, refl, sym, ap, ◌-◌, length, take, drop, length-take-le}
use Rattle.run.specs.Call.{limit_of, member_of}
use Rattle.run_columns.proofs.Fill.{rest_is}
use Rattle.place_run.proofs.Taken.{taken, near-limit, steps-small, first_small, members-within, fits-between, between_is, none_is}
use Rattle.place_run.proofs.place.place.Goals as goal

pub returns-then-r-eq0 : goal.returns-then-r-eq0
returns-then-r-eq0 c = let t = taken _ _ _ _ _ _ _ _ c.requires.answer_value in none_is _ _ _ _ _ _ _ _ t c.if-r-eq0.true

pub slice_bounds-steps-count : goal.slice_bounds-steps-count
slice_bounds-steps-count c = let t = taken _ _ _ _ _ _ _ _ c.requires.answer_value in omega (arith, c.members-first.ensures, members-within _ _ _ _ _ _ _ _ t (omega (arith, c.if-r-eq0.false)))

pub slice_bounds-steps-start : goal.slice_bounds-steps-start
slice_bounds-steps-start c = let t = taken _ _ _ _ _ _ _ _ c.requires.answer_value in omega (arith, c.members-first.ensures, members-within _ _ _ _ _ _ _ _ t (omega (arith, c.if-r-eq0.false)))

pub left_limit-low-requires : goal.left_limit-low-requires
left_limit-low-requires c = let t = taken _ _ _ _ _ _ _ _ c.requires.answer_value in (near-limit c.args.left t.left, first_small _ _ _ _ _ _ _ _ t)

pub right_limit-high-requires : goal.right_limit-high-requires
right_limit-high-requires c = let t = taken _ _ _ _ _ _ _ _ c.requires.answer_value in (near-limit c.args.right t.right, simp rest_is (rw c.members-first.ensures (steps-small _ _ _ _ _ _ _ _ t)))

pub slice_bounds-offsets-end : goal.slice_bounds-offsets-end
slice_bounds-offsets-end c = (taken _ _ _ _ _ _ _ _ c.requires.answer_value).boxes

pub slice_bounds-place_between-end : goal.slice_bounds-place_between-end
slice_bounds-place_between-end c = sym (length-take-le _ _ (taken _ _ _ _ _ _ _ _ c.requires.answer_value).boxes)

pub place_between-requires-clause-fits : goal.place_between-requires-clause-fits
place_between-requires-clause-fits c = let ds = c.args.distances.now in let t = taken _ _ _ _ _ _ _ _ c.requires.answer_value in
    let e : take (length ds - c.members-first.result) (drop c.members-first.result ds) ≡ drop (member_of c.args.left) ds = rest_is c.members-first.result ds ∙ ap (λ n. drop n ds) c.members-first.ensures in
    rw e (fits-between _ _ _ _ _ _ _ _ t (omega (arith, c.if-r-eq0.false)) c.args.sums.now refl c.requires.sums_len (limit_of c.left_limit-low.result) (limit_of c.right_limit-high.result) c.left_limit-low.ensures (rw e at c.right_limit-high.ensures))

pub place_between-requires-clause-offsets_len : goal.place_between-requires-clause-offsets_len
place_between-requires-clause-offsets_len c = length-take-le _ _ (taken _ _ _ _ _ _ _ _ c.requires.answer_value).boxes

pub returns : goal.returns
returns c = let ds = c.args.distances.now in let t = taken _ _ _ _ _ _ _ _ c.requires.answer_value in
    let e : take (length ds - c.members-first.result) (drop c.members-first.result ds) ≡ drop (member_of c.args.left) ds = rest_is c.members-first.result ds ∙ ap (λ n. drop n ds) c.members-first.ensures in
    let h = rw e at c.right_limit-high.ensures in
    rw (e, c.left_limit-low.ensures, h) at c.place_between.ensures ∙ between_is _ _ _ _ _ _ _ _ t (omega (arith, c.if-r-eq0.false))
