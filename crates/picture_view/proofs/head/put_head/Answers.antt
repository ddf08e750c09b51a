use mathlib.Core.Path.{◌≡◌, ◌∙◌}
use mathlib.Core.List.{◌++◌}
use Prim.Native.Nat.{◌*◌}
use native.Mathlib.Omega.{arith}
use lib.ListN.{length-append}
use lib.IntN.{pos, ◌-ℤ◌}
use mir.Syntax.{w64}
use mir.Val.{to_z, of_z}
use Rattle.ints.proofs.Laws.{back, back', sum, dif}
use Rattle.text.specs.Bytes.{bytes}
use Rattle.text_write.proofs.Written.{wrote_none, and_then, and_both, room_after}
use Rattle.picture_numbers.specs.Thousandths.{across, down}
use Rattle.picture_view.specs.View.{view_left, view_top, view_width, head_of}
use Rattle.picture_view.proofs.head.put_head.Goals as goal

pub put_across-a-requires : goal.put_across-a-requires
unfolding head_of
put_across-a-requires c =
    let a = c.args in
    let left : to_z w64 (of_z w64 c.minus-left.result) ≡ view_left a.lo a.measure = back' c.minus-left.result c.minus-left.type_inv ∙ (rw (back c.ranges.lo) at c.minus-left.ensures) in
    let top : to_z w64 (of_z w64 c.minus-top.result) ≡ view_top a.measure = back' c.minus-top.result c.minus-top.type_inv ∙ c.minus-top.ensures in
    let between : to_z w64 (of_z w64 c.difference.result) ≡ a.hi -ℤ a.lo = back' c.difference.result c.difference.type_inv ∙ (rw (back c.ranges.lo, back c.ranges.hi) at c.difference.ensures) in
    let width : to_z w64 (of_z w64 c.plus-width.result) ≡ view_width a.lo a.hi a.measure = back' c.plus-width.result c.plus-width.type_inv ∙ (rw between at c.plus-width.ensures) in
    rw left (
      omega (arith, c.requires.0.left, c.requires.0.measure, dif a.lo (pos a.measure)),
      room_after ((bytes "<svg xmlns=\"http://www.w3.org/2000/svg\" version=\"1.1\" class=\"drawing\" viewBox=\"") ++ (across (view_left a.lo a.measure)))
          (head_of a.lo a.hi a.measure a.height)
          (wrote_none a.out.now a.at) c.requires.1 (simp length-append (omega arith)),
    )

pub put_across-b-requires : goal.put_across-b-requires
unfolding head_of
put_across-b-requires c =
    let a = c.args in
    let left : to_z w64 (of_z w64 c.minus-left.result) ≡ view_left a.lo a.measure = back' c.minus-left.result c.minus-left.type_inv ∙ (rw (back c.ranges.lo) at c.minus-left.ensures) in
    let top : to_z w64 (of_z w64 c.minus-top.result) ≡ view_top a.measure = back' c.minus-top.result c.minus-top.type_inv ∙ c.minus-top.ensures in
    let between : to_z w64 (of_z w64 c.difference.result) ≡ a.hi -ℤ a.lo = back' c.difference.result c.difference.type_inv ∙ (rw (back c.ranges.lo, back c.ranges.hi) at c.difference.ensures) in
    let width : to_z w64 (of_z w64 c.plus-width.result) ≡ view_width a.lo a.hi a.measure = back' c.plus-width.result c.plus-width.type_inv ∙ (rw between at c.plus-width.ensures) in
    let w1 = (rw left at c.put_across-a.ensures) in
    rw top (
      omega (arith, c.requires.0.measure, dif (pos 0) (pos a.measure)),
      room_after ((bytes " ") ++ (across (view_top a.measure)))
          (head_of a.lo a.hi a.measure a.height)
          w1 c.requires.1 (simp length-append (omega arith)),
    )

pub put_across-c-requires : goal.put_across-c-requires
unfolding head_of
put_across-c-requires c =
    let a = c.args in
    let left : to_z w64 (of_z w64 c.minus-left.result) ≡ view_left a.lo a.measure = back' c.minus-left.result c.minus-left.type_inv ∙ (rw (back c.ranges.lo) at c.minus-left.ensures) in
    let top : to_z w64 (of_z w64 c.minus-top.result) ≡ view_top a.measure = back' c.minus-top.result c.minus-top.type_inv ∙ c.minus-top.ensures in
    let between : to_z w64 (of_z w64 c.difference.result) ≡ a.hi -ℤ a.lo = back' c.difference.result c.difference.type_inv ∙ (rw (back c.ranges.lo, back c.ranges.hi) at c.difference.ensures) in
    let width : to_z w64 (of_z w64 c.plus-width.result) ≡ view_width a.lo a.hi a.measure = back' c.plus-width.result c.plus-width.type_inv ∙ (rw between at c.plus-width.ensures) in
    let w1 = (rw left at c.put_across-a.ensures) in
    let w2 = and_both (bytes " ") (across (view_top a.measure)) w1 (rw top at c.put_across-b.ensures) in
    rw width (
      omega (arith, c.requires.0.left, c.requires.0.right, c.requires.0.measure, dif a.hi a.lo, sum (a.hi -ℤ a.lo) (pos (2 * a.measure))),
      room_after ((bytes " ") ++ (across (view_width a.lo a.hi a.measure)))
          (head_of a.lo a.hi a.measure a.height)
          w2 c.requires.1 (simp length-append (omega arith)),
    )

pub put_down-d-requires : goal.put_down-d-requires
unfolding head_of
put_down-d-requires c =
    let a = c.args in
    let left : to_z w64 (of_z w64 c.minus-left.result) ≡ view_left a.lo a.measure = back' c.minus-left.result c.minus-left.type_inv ∙ (rw (back c.ranges.lo) at c.minus-left.ensures) in
    let top : to_z w64 (of_z w64 c.minus-top.result) ≡ view_top a.measure = back' c.minus-top.result c.minus-top.type_inv ∙ c.minus-top.ensures in
    let between : to_z w64 (of_z w64 c.difference.result) ≡ a.hi -ℤ a.lo = back' c.difference.result c.difference.type_inv ∙ (rw (back c.ranges.lo, back c.ranges.hi) at c.difference.ensures) in
    let width : to_z w64 (of_z w64 c.plus-width.result) ≡ view_width a.lo a.hi a.measure = back' c.plus-width.result c.plus-width.type_inv ∙ (rw between at c.plus-width.ensures) in
    let w1 = (rw left at c.put_across-a.ensures) in
    let w2 = and_both (bytes " ") (across (view_top a.measure)) w1 (rw top at c.put_across-b.ensures) in
    let w3 = and_both (bytes " ") (across (view_width a.lo a.hi a.measure)) w2 (rw width at c.put_across-c.ensures) in (
      omega (arith, c.requires.0.high),
      room_after ((bytes " ") ++ (down a.height))
          (head_of a.lo a.hi a.measure a.height)
          w3 c.requires.1 (simp length-append (omega arith)),
    )

pub put_word-requires : goal.put_word-requires
unfolding head_of
put_word-requires c =
    let a = c.args in
    let left : to_z w64 (of_z w64 c.minus-left.result) ≡ view_left a.lo a.measure = back' c.minus-left.result c.minus-left.type_inv ∙ (rw (back c.ranges.lo) at c.minus-left.ensures) in
    let top : to_z w64 (of_z w64 c.minus-top.result) ≡ view_top a.measure = back' c.minus-top.result c.minus-top.type_inv ∙ c.minus-top.ensures in
    let between : to_z w64 (of_z w64 c.difference.result) ≡ a.hi -ℤ a.lo = back' c.difference.result c.difference.type_inv ∙ (rw (back c.ranges.lo, back c.ranges.hi) at c.difference.ensures) in
    let width : to_z w64 (of_z w64 c.plus-width.result) ≡ view_width a.lo a.hi a.measure = back' c.plus-width.result c.plus-width.type_inv ∙ (rw between at c.plus-width.ensures) in
    let w1 = (rw left at c.put_across-a.ensures) in
    let w2 = and_both (bytes " ") (across (view_top a.measure)) w1 (rw top at c.put_across-b.ensures) in
    let w3 = and_both (bytes " ") (across (view_width a.lo a.hi a.measure)) w2 (rw width at c.put_across-c.ensures) in
    let w4 = and_both (bytes " ") (down a.height) w3 c.put_down-d.ensures in
    room_after (bytes "\">\n")
    (head_of a.lo a.hi a.measure a.height)
    w4 c.requires.1 (simp length-append (omega arith))

pub returns : goal.returns
unfolding head_of
returns c =
    let a = c.args in
    let left : to_z w64 (of_z w64 c.minus-left.result) ≡ view_left a.lo a.measure = back' c.minus-left.result c.minus-left.type_inv ∙ (rw (back c.ranges.lo) at c.minus-left.ensures) in
    let top : to_z w64 (of_z w64 c.minus-top.result) ≡ view_top a.measure = back' c.minus-top.result c.minus-top.type_inv ∙ c.minus-top.ensures in
    let between : to_z w64 (of_z w64 c.difference.result) ≡ a.hi -ℤ a.lo = back' c.difference.result c.difference.type_inv ∙ (rw (back c.ranges.lo, back c.ranges.hi) at c.difference.ensures) in
    let width : to_z w64 (of_z w64 c.plus-width.result) ≡ view_width a.lo a.hi a.measure = back' c.plus-width.result c.plus-width.type_inv ∙ (rw between at c.plus-width.ensures) in
    let w1 = (rw left at c.put_across-a.ensures) in
    let w2 = and_both (bytes " ") (across (view_top a.measure)) w1 (rw top at c.put_across-b.ensures) in
    let w3 = and_both (bytes " ") (across (view_width a.lo a.hi a.measure)) w2 (rw width at c.put_across-c.ensures) in
    let w4 = and_both (bytes " ") (down a.height) w3 c.put_down-d.ensures in
    let w5 = and_then w4 c.put_word.ensures in
    w5
