use Rattle.std.proofs.Common.{List, ℕ, ℤ}
use mathlib.Core.Path.{◌≡◌, ◌∙◌}
use mathlib.Core.List.{◌++◌}
use Prim.Native.Nat.{◌*◌}
use native.Mathlib.Omega.{arith}
use lib.ListN.{length-append}
use mir.Syntax.{w64}
use mir.Val.{to_z, of_z}
use Rattle.ints.proofs.Laws.{back'}
use Rattle.text.specs.Bytes.{bytes}
use Rattle.text_write.proofs.Written.{wrote_none, and_then, and_both, room_after}
use Rattle.picture_numbers.specs.Thousandths.{amount}
use Rattle.picture_view.specs.Measure.{leftmost, rightmost}
use Rattle.picture_view.specs.View.{head_of}
use Rattle.picture_view.specs.inner.Edges.{Ends}
use Rattle.picture_view.proofs.MeasureLaws.{leftmost-size, rightmost-size}
use Rattle.picture_marks.specs.inner.Listed.{opening_in, OpeningAsked}
use Rattle.picture_marks.proofs.document.put_opening.Goals as goal

ends : {halves : List ℕ} {xs : List ℤ} {u h : ℕ} → OpeningAsked u h halves xs → Ends (leftmost halves xs) (rightmost halves xs) u h
ends {halves} {xs} r =
    let e = r.edged in
    record {
      left = omega (arith, leftmost-size halves xs e.narrow e.within);
      right = omega (arith, rightmost-size halves xs e.narrow e.within);
      measure = r.measure;
      high = r.high;
    }

pub put_head-a-requires : goal.put_head-a-requires
put_head-a-requires c =
    let a = c.args in
    let lo : to_z w64 (of_z w64 c.left_end-lo.result) ≡ leftmost a.halves.now a.finals.now = back' c.left_end-lo.result c.left_end-lo.type_inv ∙ c.left_end-lo.ensures in
    let hi : to_z w64 (of_z w64 c.right_end-hi.result) ≡ rightmost a.halves.now a.finals.now = back' c.right_end-hi.result c.right_end-hi.type_inv ∙ c.right_end-hi.ensures in
    rw (lo, hi) (
      ends c.requires.0,
      room_after (head_of (leftmost a.halves.now a.finals.now) (rightmost a.halves.now a.finals.now) a.measure a.height)
          (opening_in a.measure a.height a.halves.now a.finals.now)
          (wrote_none a.out.now 0) c.requires.1 (simp length-append (omega arith)),
    )

pub put_measured-c-requires : goal.put_measured-c-requires
put_measured-c-requires c =
    let a = c.args in
    let lo : to_z w64 (of_z w64 c.left_end-lo.result) ≡ leftmost a.halves.now a.finals.now = back' c.left_end-lo.result c.left_end-lo.type_inv ∙ c.left_end-lo.ensures in
    let hi : to_z w64 (of_z w64 c.right_end-hi.result) ≡ rightmost a.halves.now a.finals.now = back' c.right_end-hi.result c.right_end-hi.type_inv ∙ c.right_end-hi.ensures in
    let w1 = (rw (lo, hi) at c.put_head-a.ensures) in
    let w2 = and_then w1 c.put_style-b.ensures in
    room_after ((bytes "<g class=\"lines\" stroke-width=\"") ++ (amount (20 * a.measure)))
    (opening_in a.measure a.height a.halves.now a.finals.now)
    w2 c.requires.1 (simp length-append (omega arith))

pub returns : goal.returns
returns c =
    let a = c.args in
    let lo : to_z w64 (of_z w64 c.left_end-lo.result) ≡ leftmost a.halves.now a.finals.now = back' c.left_end-lo.result c.left_end-lo.type_inv ∙ c.left_end-lo.ensures in
    let hi : to_z w64 (of_z w64 c.right_end-hi.result) ≡ rightmost a.halves.now a.finals.now = back' c.right_end-hi.result c.right_end-hi.type_inv ∙ c.right_end-hi.ensures in
    let w1 = (rw (lo, hi) at c.put_head-a.ensures) in
    let w2 = and_then w1 c.put_style-b.ensures in
    let w3 = and_both (bytes "<g class=\"lines\" stroke-width=\"") (amount (20 * a.measure)) w2 c.put_measured-c.ensures in
    let w4 = and_then w3 c.put_word.ensures in
    w4
