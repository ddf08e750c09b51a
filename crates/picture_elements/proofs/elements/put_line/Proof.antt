-- `picture_elements::elements::put_line` meets its contract: its parts one after another, each where the one before it ends.
use mathlib.Core.Path.{◌≡◌}
use mathlib.Core.List.{◌++◌}
use native.Mathlib.Omega.{arith}
use lib.ListN.{length-append}
use mir.Syntax.{w64}
use mir.Val.{to_z, of_z}
use borrow.Author.Rules.{rules}
use Rattle.ints.proofs.Laws.{back}
use Rattle.text.specs.Bytes.{bytes}
use Rattle.text_write.proofs.Written.{wrote_none, and_then, and_both, room_after}
use Rattle.marks.specs.Marks.{line}
use Rattle.picture_numbers.specs.Thousandths.{across, down}
use Rattle.picture_elements.specs.Elements.{pen_of, line_of}
use Rattle.picture_elements.proofs.elements.put_line.Statement.{statement}
use Rattle.picture_elements.proofs.elements.put_line.Tie as tie

b-x : (c : tie.Start) → to_z w64 (of_z w64 c.args.x) ≡ c.args.x
b-x c = back c.ranges.x

b-a : (c : tie.Start) → to_z w64 (of_z w64 c.args.a) ≡ c.args.a
b-a c = back c.ranges.a

put-across-requires : tie.Need-put_across-y1-requires
unfolding line_of
put-across-requires c κs =
    let s = c.before.before.before.before in
    let a = s.args in
    rw (b-x s) (
      omega (arith, s.requires.1.0),
      room_after ((bytes "<line x1=\"") ++ (across a.x))
          (line_of a.measure a.rating (line a.x a.y a.a a.b))
          (wrote_none a.out.now a.at) s.requires.3 (simp length-append (omega arith)),
    )

put-down-requires : tie.Need-put_down-x2-requires
unfolding line_of
put-down-requires c κs =
    let c1 = c.before.before.before.before in
    let s = c1.before.before.before.before.before.before in
    let a = s.args in
    let w1 = (rw (b-x s) at c1.put_across-y1.ensures) in (
      omega (arith, s.requires.1.1),
      room_after ((bytes "\" y1=\"") ++ (down a.y))
          (line_of a.measure a.rating (line a.x a.y a.a a.b))
          w1 s.requires.3 (simp length-append (omega arith)),
    )

put-across-requires-2 : tie.Need-put_across-y2-requires
unfolding line_of
put-across-requires-2 c κs =
    let c1 = c.before.before.before.before in
    let c2 = c1.before.before.before.before.before in
    let s = c2.before.before.before.before.before.before.before in
    let a = s.args in
    let w1 = (rw (b-x s) at c2.put_across-y1.ensures) in
    let w2 = and_both (bytes "\" y1=\"") (down a.y) w1 c1.put_down-x2.ensures in
    rw (b-a s) (
      omega (arith, s.requires.2.0),
      room_after ((bytes "\" x2=\"") ++ (across a.a))
          (line_of a.measure a.rating (line a.x a.y a.a a.b))
          w2 s.requires.3 (simp length-append (omega arith)),
    )

put-down-requires-2 : tie.Need-put_down-pen-requires
unfolding line_of
put-down-requires-2 c κs =
    let c1 = c.before.before.before.before in
    let c2 = c1.before.before.before.before.before in
    let c3 = c2.before.before.before.before.before in
    let s = c3.before.before.before.before.before.before.before.before in
    let a = s.args in
    let w1 = (rw (b-x s) at c3.put_across-y1.ensures) in
    let w2 = and_both (bytes "\" y1=\"") (down a.y) w1 c2.put_down-x2.ensures in
    let w3 = and_both (bytes "\" x2=\"") (across a.a) w2 (rw (b-a s) at c1.put_across-y2.ensures) in (
      omega (arith, s.requires.2.1),
      room_after ((bytes "\" y2=\"") ++ (down a.b))
          (line_of a.measure a.rating (line a.x a.y a.a a.b))
          w3 s.requires.3 (simp length-append (omega arith)),
    )

put-pen-requires : tie.Need-put_pen-end-requires
unfolding line_of
put-pen-requires c κs =
    let c1 = c.before.before.before in
    let c2 = c1.before.before.before.before.before in
    let c3 = c2.before.before.before.before.before in
    let c4 = c3.before.before.before.before.before in
    let s = c4.before.before.before.before.before.before.before.before in
    let a = s.args in
    let w1 = (rw (b-x s) at c4.put_across-y1.ensures) in
    let w2 = and_both (bytes "\" y1=\"") (down a.y) w1 c3.put_down-x2.ensures in
    let w3 = and_both (bytes "\" x2=\"") (across a.a) w2 (rw (b-a s) at c2.put_across-y2.ensures) in
    let w4 = and_both (bytes "\" y2=\"") (down a.b) w3 c1.put_down-pen.ensures in (
      s.requires.0,
      room_after (pen_of a.measure a.rating)
          (line_of a.measure a.rating (line a.x a.y a.a a.b))
          w4 s.requires.3 (simp length-append (omega arith)),
    )

put-word-requires : tie.Need-put_word-requires
unfolding line_of
put-word-requires c κs =
    let c1 = c.before.before.before.before in
    let c2 = c1.before.before.before.before in
    let c3 = c2.before.before.before.before.before in
    let c4 = c3.before.before.before.before.before in
    let c5 = c4.before.before.before.before.before in
    let s = c5.before.before.before.before.before.before.before.before.before in
    let a = s.args in
    let w1 = (rw (b-x s) at c5.put_across-y1.ensures) in
    let w2 = and_both (bytes "\" y1=\"") (down a.y) w1 c4.put_down-x2.ensures in
    let w3 = and_both (bytes "\" x2=\"") (across a.a) w2 (rw (b-a s) at c3.put_across-y2.ensures) in
    let w4 = and_both (bytes "\" y2=\"") (down a.b) w3 c2.put_down-pen.ensures in
    let w5 = and_then w4 c1.put_pen-end.ensures in
    room_after (bytes "\"/>\n")
    (line_of a.measure a.rating (line a.x a.y a.a a.b))
    w5 s.requires.3 (simp length-append (omega arith))

returns : tie.Need-returns
unfolding line_of
returns c =
    let c1 = c.before.before in
    let c2 = c1.before.before.before.before.before in
    let c3 = c2.before.before.before.before in
    let c4 = c3.before.before.before.before.before in
    let c5 = c4.before.before.before.before.before in
    let c6 = c5.before.before.before.before.before in
    let s = c6.before.before.before.before.before.before.before.before.before in
    let a = s.args in
    let w1 = (rw (b-x s) at c6.put_across-y1.ensures) in
    let w2 = and_both (bytes "\" y1=\"") (down a.y) w1 c5.put_down-x2.ensures in
    let w3 = and_both (bytes "\" x2=\"") (across a.a) w2 (rw (b-a s) at c4.put_across-y2.ensures) in
    let w4 = and_both (bytes "\" y2=\"") (down a.b) w3 c3.put_down-pen.ensures in
    let w5 = and_then w4 c2.put_pen-end.ensures in
    let w6 = and_then w5 c1.put_word.ensures in
    w6

pub put_line_spec : {M : Type 1} → statement M
put_line_spec =
    tie.close
    (tie.spec put-across-requires put-down-requires put-across-requires-2 put-down-requires-2 put-pen-requires put-word-requires (λ c. search rules) returns)
