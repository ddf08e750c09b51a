-- `picture_elements::elements::put_bend` meets its contract: its parts one after another, each where the one before it ends.
use mathlib.Core.Path.{◌≡◌}
use mathlib.Core.List.{◌++◌}
use Prim.Native.Nat.{◌*◌}
use native.Mathlib.Omega.{arith}
use lib.ListN.{length-append}
use mir.Syntax.{w64}
use mir.Val.{to_z, of_z}
use borrow.Author.Rules.{rules}
use Rattle.ints.proofs.Laws.{back}
use Rattle.text.specs.Bytes.{bytes}
use Rattle.text.specs.Decimal.{decimal}
use Rattle.text_write.proofs.Written.{wrote_none, and_then, and_both, room_after}
use Rattle.marks.specs.Marks.{bend}
use Rattle.picture_numbers.specs.Thousandths.{amount, across, down}
use Rattle.picture_elements.specs.Elements.{bend_of}
use Rattle.picture_elements.proofs.elements.put_bend.Statement.{statement}
use Rattle.picture_elements.proofs.elements.put_bend.Tie as tie

b-x : (c : tie.Start) → to_z w64 (of_z w64 c.args.x) ≡ c.args.x
b-x c = back c.ranges.x

put-word-requires : tie.Need-put_word-id-requires
unfolding bend_of
put-word-requires c κs =
    let s = c in
    let a = s.args in
    room_after (bytes "<circle id=\"v")
    (bend_of a.measure a.n (bend a.x a.y))
    (wrote_none a.out.now a.at) s.requires.1 (simp length-append (omega arith))

put-decimal-requires : tie.Need-put_decimal-cx-requires
unfolding bend_of
put-decimal-requires c κs =
    let c1 = c.before.before.before in
    let s = c1 in
    let a = s.args in
    let w1 = c1.put_word-id.ensures in
    room_after (decimal a.n)
    (bend_of a.measure a.n (bend a.x a.y))
    w1 s.requires.1 (simp length-append (omega arith))

put-across-requires : tie.Need-put_across-cy-requires
unfolding bend_of
put-across-requires c κs =
    let c1 = c.before.before.before.before in
    let c2 = c1.before.before.before.before in
    let s = c2.before.before.before.before.before.before in
    let a = s.args in
    let w1 = c2.put_word-id.ensures in
    let w2 = and_then w1 c1.put_decimal-cx.ensures in
    rw (b-x s) (
      omega (arith, s.requires.0.point.0),
      room_after ((bytes "\" cx=\"") ++ (across a.x))
          (bend_of a.measure a.n (bend a.x a.y))
          w2 s.requires.1 (simp length-append (omega arith)),
    )

put-down-requires : tie.Need-put_down-r-requires
unfolding bend_of
put-down-requires c κs =
    let c1 = c.before.before.before.before in
    let c2 = c1.before.before.before.before.before in
    let c3 = c2.before.before.before.before in
    let s = c3.before.before.before.before.before.before.before in
    let a = s.args in
    let w1 = c3.put_word-id.ensures in
    let w2 = and_then w1 c2.put_decimal-cx.ensures in
    let w3 = and_both (bytes "\" cx=\"") (across a.x) w2 (rw (b-x s) at c1.put_across-cy.ensures) in (
      omega (arith, s.requires.0.point.1),
      room_after ((bytes "\" cy=\"") ++ (down a.y))
          (bend_of a.measure a.n (bend a.x a.y))
          w3 s.requires.1 (simp length-append (omega arith)),
    )

put-measured-requires : tie.Need-put_measured-end-requires
unfolding bend_of
put-measured-requires c κs =
    let c1 = c.before.before.before.before in
    let c2 = c1.before.before.before.before.before in
    let c3 = c2.before.before.before.before.before in
    let c4 = c3.before.before.before.before in
    let s = c4.before.before.before.before.before.before.before.before in
    let a = s.args in
    let w1 = c4.put_word-id.ensures in
    let w2 = and_then w1 c3.put_decimal-cx.ensures in
    let w3 = and_both (bytes "\" cx=\"") (across a.x) w2 (rw (b-x s) at c2.put_across-cy.ensures) in
    let w4 = and_both (bytes "\" cy=\"") (down a.y) w3 c1.put_down-r.ensures in
    room_after ((bytes "\" r=\"") ++ (amount (35 * a.measure)))
    (bend_of a.measure a.n (bend a.x a.y))
    w4 s.requires.1 (simp length-append (omega arith))

put-word-requires-2 : tie.Need-put_word-requires
unfolding bend_of
put-word-requires-2 c κs =
    let c1 = c.before.before.before.before in
    let c2 = c1.before.before.before.before.before in
    let c3 = c2.before.before.before.before.before in
    let c4 = c3.before.before.before.before.before in
    let c5 = c4.before.before.before.before in
    let s = c5.before.before.before.before.before.before.before.before.before in
    let a = s.args in
    let w1 = c5.put_word-id.ensures in
    let w2 = and_then w1 c4.put_decimal-cx.ensures in
    let w3 = and_both (bytes "\" cx=\"") (across a.x) w2 (rw (b-x s) at c3.put_across-cy.ensures) in
    let w4 = and_both (bytes "\" cy=\"") (down a.y) w3 c2.put_down-r.ensures in
    let w5 = and_both (bytes "\" r=\"") (amount (35 * a.measure)) w4 c1.put_measured-end.ensures in
    room_after (bytes "\"/>\n")
    (bend_of a.measure a.n (bend a.x a.y))
    w5 s.requires.1 (simp length-append (omega arith))

returns : tie.Need-returns
unfolding bend_of
returns c =
    let c1 = c.before.before in
    let c2 = c1.before.before.before.before.before in
    let c3 = c2.before.before.before.before.before in
    let c4 = c3.before.before.before.before.before in
    let c5 = c4.before.before.before.before.before in
    let c6 = c5.before.before.before.before in
    let s = c6.before.before.before.before.before.before.before.before.before in
    let a = s.args in
    let w1 = c6.put_word-id.ensures in
    let w2 = and_then w1 c5.put_decimal-cx.ensures in
    let w3 = and_both (bytes "\" cx=\"") (across a.x) w2 (rw (b-x s) at c4.put_across-cy.ensures) in
    let w4 = and_both (bytes "\" cy=\"") (down a.y) w3 c3.put_down-r.ensures in
    let w5 = and_both (bytes "\" r=\"") (amount (35 * a.measure)) w4 c2.put_measured-end.ensures in
    let w6 = and_then w5 c1.put_word.ensures in
    w6

pub put_bend_spec : {M : Type 1} → statement M
put_bend_spec =
    tie.close
    (tie.spec put-word-requires put-decimal-requires put-across-requires put-down-requires (λ c. search rules) put-measured-requires put-word-requires-2 (λ c. search rules) returns)
