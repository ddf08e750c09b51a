use Rattle.std.proofs.Common.{◌≡◌, ◌∙◌, ℕ, ℤ, List, sym, subst, length, get_or}
use lib.ListN.{length-map}
use Rattle.ints.specs.Ints.{SizedTo}
use Rattle.ints.proofs.Reach.{sized-map}
use Rattle.prelim_classes.specs.inner.Links.{chain}
use Rattle.prelim_shifts.specs.inner.Shifts.{offset, offsets}
use Rattle.prelim_shifts.proofs.ShiftLaws.{over-take, offset-sized}
use Rattle.prelim_shifts.proofs.shift.shift_of.Goals as goal

pub middle-requires : goal.middle-requires
middle-requires c =
    let a = c.args in
    let is = chain a.segment_link.now a.segment in
    let f = λ (i : ℕ). offset a.c a.classes.now a.xs.now (get_or a.uppers.now i 0) (get_or a.lowers.now i 0) in
    let l = offsets a.c a.classes.now a.xs.now a.uppers.now a.lowers.now is in
    let n : c.offsets-segments.result ≡ length l = c.offsets-segments.ensures.0 ∙ sym (length-map is f) in
    subst (λ (x : List ℤ). SizedTo 268435456 x) (sym (over-take l c.slacks-pairs.new.out _ _ c.offsets-segments.ensures.1 n))
    (sized-map 268435456 f is (λ k. offset-sized a.c a.classes.now a.xs.now (get_or a.uppers.now k 0) (get_or a.lowers.now k 0) c.requires.xs_len.1))
