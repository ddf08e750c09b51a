-- `picture_elements::elements::put_rect` meets its contract: its parts one after another, each where the one before it ends.
use mathlib.Core.Path.{◌≡◌, ◌∙◌}
use mathlib.Core.List.{◌++◌}
use Prim.Native.Nat.{◌*◌}
use native.Mathlib.Omega.{arith}
use lib.ListN.{length-append}
use lib.IntN.{pos, ◌-ℤ◌}
use mir.Syntax.{w64}
use mir.Val.{to_z, of_z}
use borrow.Author.Rules.{rules}
use Rattle.ints.proofs.Laws.{back, back', of-nat, dif}
use Rattle.text.specs.Bytes.{bytes}
use Rattle.text_write.proofs.Written.{wrote_none, and_then, and_both, room_after}
use Rattle.picture_numbers.specs.Thousandths.{amount, thousandths, across, down}
use Rattle.picture_elements.specs.Elements.{rect_of}
use Rattle.picture_elements.proofs.elements.put_rect.Statement.{statement}
use Rattle.picture_elements.proofs.elements.put_rect.Tie as tie

b-x : (c : tie.Start) → to_z w64 (of_z w64 c.args.x) ≡ c.args.x
b-x c = back c.ranges.x

b-y : (c : tie.Start) → to_z w64 (1000 * c.args.y) ≡ pos (1000 * c.args.y)
b-y c = of-nat (1000 * c.args.y) (omega (arith, c.requires.0.1))

left_is : (c : tie.After-minus-left) → to_z w64 (of_z w64 c.minus-left.result) ≡ c.args.x -ℤ pos (2 * c.args.half)
left_is c = back' c.minus-left.result c.minus-left.type_inv ∙ (simp b-x at c.minus-left.ensures)

top-is : (c : tie.After-minus-top) →
    let s = c in
    let a = s.args in
    to_z w64 (of_z w64 c.minus-top.result) ≡ pos (1000 * a.y) -ℤ pos (200 * a.measure)
top-is c = back' c.minus-top.result c.minus-top.type_inv ∙ (simp b-y at c.minus-top.ensures)

minus-requires : tie.Need-minus-left-requires
minus-requires c κs = simp b-x (omega (arith, c.requires.0.0, c.requires.2))

minus-requires-2 : tie.Need-minus-top-requires
minus-requires-2 c κs = simp b-y (omega (arith, c.requires.0.1, c.requires.1))

put-across-requires : tie.Need-put_across-a-requires
unfolding rect_of
put-across-requires c κs =
    let c1 = c.before.before.before.before in
    let s = c1 in
    let a = s.args in
    rw (left_is c1) (
      omega (arith, s.requires.0.0, s.requires.2, dif a.x (pos (2 * a.half))),
      room_after ((bytes "<rect x=\"") ++ (across (a.x -ℤ pos (2 * a.half))))
          (rect_of a.measure a.x a.y a.half)
          (wrote_none a.out.now a.at) s.requires.3 (simp length-append (omega arith)),
    )

put-word-requires : tie.Need-put_word-b-requires
unfolding rect_of
put-word-requires c κs =
    let c1 = c.before.before.before.before in
    let c2 = c1.before.before.before.before.before.before in
    let s = c2 in
    let a = s.args in
    let w1 = (rw (left_is c2) at c1.put_across-a.ensures) in
    room_after (bytes "\" y=\"")
    (rect_of a.measure a.x a.y a.half)
    w1 s.requires.3 (simp length-append (omega arith))

put-thousandths-requires : tie.Need-put_thousandths-c-requires
unfolding rect_of
put-thousandths-requires c κs =
    let c1 = c.before.before.before in
    let c2 = c1.before.before.before.before.before in
    let c3 = c2.before.before.before.before.before in
    let c4 = c3.before in
    let s = c4 in
    let a = s.args in
    let w1 = (rw (left_is c4) at c2.put_across-a.ensures) in
    let w2 = and_then w1 c1.put_word-b.ensures in
    rw (top-is c3) (
      omega (arith, s.requires.0.1, s.requires.1, dif (pos (1000 * a.y)) (pos (200 * a.measure))),
      room_after (thousandths (pos (1000 * a.y) -ℤ pos (200 * a.measure)))
          (rect_of a.measure a.x a.y a.half)
          w2 s.requires.3 (simp length-append (omega arith)),
    )

put-down-requires : tie.Need-put_down-d-requires
unfolding rect_of
put-down-requires c κs =
    let c1 = c.before.before.before.before in
    let c2 = c1.before.before.before.before in
    let c3 = c2.before.before.before.before.before in
    let c4 = c3.before.before.before.before.before.before in
    let c5 = c4.before in
    let s = c5 in
    let a = s.args in
    let w1 = (rw (left_is c5) at c3.put_across-a.ensures) in
    let w2 = and_then w1 c2.put_word-b.ensures in
    let w3 = and_then w2 (rw (top-is c4) at c1.put_thousandths-c.ensures) in (
      omega (arith, s.requires.2),
      room_after ((bytes "\" width=\"") ++ (down (2 * a.half)))
          (rect_of a.measure a.x a.y a.half)
          w3 s.requires.3 (simp length-append (omega arith)),
    )

put-measured-requires : tie.Need-put_measured-e-requires
unfolding rect_of
put-measured-requires c κs =
    let c1 = c.before.before.before.before in
    let c2 = c1.before.before.before.before.before in
    let c3 = c2.before.before.before.before in
    let c4 = c3.before.before.before.before.before in
    let c5 = c4.before.before.before.before.before.before.before in
    let c6 = c5.before in
    let s = c6 in
    let a = s.args in
    let w1 = (rw (left_is c6) at c4.put_across-a.ensures) in
    let w2 = and_then w1 c3.put_word-b.ensures in
    let w3 = and_then w2 (rw (top-is c5) at c2.put_thousandths-c.ensures) in
    let w4 = and_both (bytes "\" width=\"") (down (2 * a.half)) w3 c1.put_down-d.ensures in
    room_after ((bytes "\" height=\"") ++ (amount (400 * a.measure)))
    (rect_of a.measure a.x a.y a.half)
    w4 s.requires.3 (simp length-append (omega arith))

put-word-requires-2 : tie.Need-put_word-requires
unfolding rect_of
put-word-requires-2 c κs =
    let c1 = c.before.before.before.before in
    let c2 = c1.before.before.before.before.before in
    let c3 = c2.before.before.before.before.before in
    let c4 = c3.before.before.before.before in
    let c5 = c4.before.before.before.before.before in
    let c6 = c5.before.before.before.before.before.before.before.before in
    let c7 = c6.before in
    let s = c7 in
    let a = s.args in
    let w1 = (rw (left_is c7) at c5.put_across-a.ensures) in
    let w2 = and_then w1 c4.put_word-b.ensures in
    let w3 = and_then w2 (rw (top-is c6) at c3.put_thousandths-c.ensures) in
    let w4 = and_both (bytes "\" width=\"") (down (2 * a.half)) w3 c2.put_down-d.ensures in
    let w5 = and_both (bytes "\" height=\"") (amount (400 * a.measure)) w4 c1.put_measured-e.ensures in
    room_after (bytes "\"/>")
    (rect_of a.measure a.x a.y a.half)
    w5 s.requires.3 (simp length-append (omega arith))

returns : tie.Need-returns
unfolding rect_of
returns c =
    let c1 = c.before.before in
    let c2 = c1.before.before.before.before.before in
    let c3 = c2.before.before.before.before.before in
    let c4 = c3.before.before.before.before.before in
    let c5 = c4.before.before.before.before in
    let c6 = c5.before.before.before.before.before in
    let c7 = c6.before.before.before.before.before.before.before.before in
    let c8 = c7.before in
    let s = c8 in
    let a = s.args in
    let w1 = (rw (left_is c8) at c6.put_across-a.ensures) in
    let w2 = and_then w1 c5.put_word-b.ensures in
    let w3 = and_then w2 (rw (top-is c7) at c4.put_thousandths-c.ensures) in
    let w4 = and_both (bytes "\" width=\"") (down (2 * a.half)) w3 c3.put_down-d.ensures in
    let w5 = and_both (bytes "\" height=\"") (amount (400 * a.measure)) w4 c2.put_measured-e.ensures in
    let w6 = and_then w5 c1.put_word.ensures in
    w6

pub put_rect_spec : {M : Type 1} → statement M
put_rect_spec =
    tie.close
    (tie.spec (λ c. search rules) minus-requires (λ c. search rules) (λ c. search rules) (λ c. search rules) minus-requires-2 put-across-requires put-word-requires put-thousandths-requires (λ c. search rules) put-down-requires (λ c. search rules) put-measured-requires put-word-requires-2 (λ c. search rules) returns)
