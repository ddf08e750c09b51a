use Rattle.std.proofs.Common.{arith, ◌≡◌, ap, ℕ, ◌-◌, length, take, drop}
use Rattle.place_run.proofs.Taken.{taken, none_is}
use Rattle.pass_place.specs.inner.Asked.{part}
use Rattle.pass_place.proofs.Rows.{row-order}
use Rattle.pass_place.proofs.one.place_boxes.Goals as goal

pub returns-then-from-end : goal.returns-then-from-end
returns-then-from-end c =
    let a = c.args in
    let z : a.end - a.from ≡ 0 = omega (arith, c.if-from-end.true) in
    let none : length (part a.from a.end a.at.now) ≡ 0 = ap (λ (n : ℕ). length (take n (drop a.from a.at.now))) z in
    none_is _ _ _ _ _ _ _ _ (taken _ _ _ _ _ _ _ _ c.requires.answer_value) none

pub overflow_sub-n : goal.overflow_sub-n
overflow_sub-n c = omega (arith, c.from-2.ensures, c.from.ensures, row-order c.requires.rowed)
