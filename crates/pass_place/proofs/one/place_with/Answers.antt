-- The run that it asks for is that of the visit, and its outcome is written back.
use Rattle.std.proofs.Common.{arith, ◌≡◌, ◌∙◌, sym, [], ◌∷◌, ◌++◌, ◌-◌, length}
use Rattle.passes.specs.Passes.{placed}
use Rattle.pass_tables.specs.inner.Moments.{state_after, AtVisit, Placing}
use Rattle.pass_place.specs.inner.Asked.{low_of, high_of}
use Rattle.pass_place.proofs.Next.{long, apart-long, small, inside, order, members-in, rowed, taken, outcome, next-at, next-standing, next-apart}
use Rattle.pass_place.proofs.one.place_with.Goals as goal
use Rattle.pass_place.proofs.one.place_with.Goals.{After-put_back}

-- where the boxes stand afterwards
new-at : (c : After-put_back) (m : AtVisit) → let a = c.args in
    Placing a.start a.from a.end a.to a.first.now a.ends.now a.sums.now a.at.now a.apart.now m → c.put_back.new.at ≡ (state_after m.plan (m.past ++ m.visit ∷ [])).at
new-at c m h = let a = c.args in let ys = c.place_boxes.new.answer in
    let last : c.last_end-last.result - low_of a.start a.from ≡ high_of a.end a.to - low_of a.start a.from - 1 = omega (arith, c.last_end-last.ensures, c.high_end.ensures, c.low_end-low.ensures) in
    let long : length ys ≡ a.end - a.from = c.place_boxes.auto.answer ∙ c.requires.answer_len in
    let o : ys ≡ placed m.plan m.visit.pass (state_after m.plan m.past) m.visit.run =
    rw (c.left_bound-left.ensures, c.right_bound-right.ensures, c.low_end-low.ensures) at c.place_boxes.ensures ∙ outcome h c.last_end-last.result last in
    rw long at c.put_back.ensures ∙ next-at h ys o

pub left_bound-left-requires : goal.left_bound-left-requires
left_bound-left-requires c = let h = c.requires.some.is in omega (arith, long h, (inside h).0)

pub right_bound-right-requires : goal.right_bound-right-requires
right_bound-right-requires c = let h = c.requires.some.is in omega (arith, long h, (inside h).2)

pub offset_bounds-apart-low : goal.offset_bounds-apart-low
offset_bounds-apart-low c = let h = c.requires.some.is in omega (arith, c.low_end-low.ensures, members-in h, small h)

pub slice_bounds-place_boxes-end : goal.slice_bounds-place_boxes-end
slice_bounds-place_boxes-end c = let h = c.requires.some.is in omega (arith, c.last_end-last.ensures.1, c.high_end.ensures, (members-in h).1, apart-long h)

pub place_boxes-requires-clause-rowed : goal.place_boxes-requires-clause-rowed
place_boxes-requires-clause-rowed c = rowed c.requires.some.is

pub place_boxes-requires-clause-answer_value : goal.place_boxes-requires-clause-answer_value
place_boxes-requires-clause-answer_value c = let a = c.args in let h = c.requires.some.is in
    let last : c.last_end-last.result - low_of a.start a.from ≡ high_of a.end a.to - low_of a.start a.from - 1 = omega (arith, c.last_end-last.ensures, c.high_end.ensures, c.low_end-low.ensures) in
    rw (c.left_bound-left.ensures, c.right_bound-right.ensures, c.low_end-low.ensures) (taken h c.last_end-last.result last a.answer.now c.requires.answer_len)

pub put_back-requires : goal.put_back-requires
put_back-requires c = let h = c.requires.some.is in omega (arith, c.place_boxes.auto.answer, c.requires.answer_len, long h, (inside h).1, order h)

pub take_on_open-requires-clause-standing : goal.take_on_open-requires-clause-standing
take_on_open-requires-clause-standing c = let h = c.requires.some.is in next-standing h _ (new-at (goal.at.take_on_open-requires-clause-standing c).After-put_back _ h)

pub take_on_open-requires-clause-apart_len : goal.take_on_open-requires-clause-apart_len
take_on_open-requires-clause-apart_len c = let h = c.requires.some.is in apart-long h ∙ sym (long h) ∙ sym c.put_back.auto.at

pub returns : goal.returns
returns c m h = let e = new-at (goal.at.returns c).After-put_back m h in record { places = e; distances = c.take_on_open.ensures ∙ next-apart h _ e }
