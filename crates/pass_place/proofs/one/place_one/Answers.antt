use Rattle.std.proofs.Common.{sym, length-take-le}
use Rattle.pass_place.proofs.Next.{few-boxes}
use Rattle.pass_place.proofs.one.place_one.Goals as goal

pub slice_bounds-answer-end-2 : goal.slice_bounds-answer-end-2
slice_bounds-answer-end-2 c = few-boxes c.requires.is

pub slice_bounds-place_with-end-2 : goal.slice_bounds-place_with-end-2
slice_bounds-place_with-end-2 c = sym (length-take-le _ _ (few-boxes c.requires.is))

pub place_with-requires-2-clause-answer_len : goal.place_with-requires-2-clause-answer_len
place_with-requires-2-clause-answer_len c = length-take-le _ _ (few-boxes c.requires.is)
