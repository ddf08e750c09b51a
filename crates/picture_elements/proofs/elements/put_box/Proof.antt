-- `picture_elements::elements::put_box` meets its contract: its parts one after another, each where the one before it ends.
use mathlib.Core.Path.{◌≡◌}
use mathlib.Core.List.{◌++◌}
use native.Mathlib.Omega.{arith}
use lib.ListN.{length-append}
use mir.Syntax.{w64}
use mir.Val.{to_z, of_z}
use borrow.Author.Rules.{rules}
use Rattle.ints.proofs.Laws.{back}
use Rattle.text.specs.Bytes.{bytes}
use Rattle.text.specs.Decimal.{decimal}
use Rattle.text_write.proofs.Written.{wrote_none, wrote-long, and_then, and_both, room_after}
use Rattle.marks.specs.Marks.{box}
use Rattle.picture_labels.specs.Label.{title_of, label_of}
use Rattle.picture_elements.specs.Elements.{rect_of, box_of}
use Rattle.picture_elements.proofs.Limits.{in-limits}
use Rattle.picture_elements.proofs.elements.put_box.Statement.{statement}
use Rattle.picture_elements.proofs.elements.put_box.Tie as tie

b-x : (c : tie.Start) → to_z w64 (of_z w64 c.args.x) ≡ c.args.x
b-x c = back c.ranges.x

put-word-requires : tie.Need-put_word-a-requires
unfolding box_of
put-word-requires c κs =
    let s = c in
    let a = s.args in
    room_after (bytes "<g id=\"v")
    (box_of a.measure a.name.now a.n (box a.x a.y a.half))
    (wrote_none a.out.now a.at) s.requires.1 (simp length-append (omega arith))

put-then-requires : tie.Need-put_then-b-requires
unfolding box_of
put-then-requires c κs =
    let c1 = c.before.before.before.before in
    let s = c1 in
    let a = s.args in
    let w1 = c1.put_word-a.ensures in
    room_after ((decimal a.n) ++ (bytes "\"><title>"))
    (box_of a.measure a.name.now a.n (box a.x a.y a.half))
    w1 s.requires.1 (simp length-append (omega arith))

put-title-requires : tie.Need-put_title-c-requires
unfolding box_of
put-title-requires c κs =
    let c1 = c.before.before.before in
    let c2 = c1.before.before.before.before.before in
    let s = c2 in
    let a = s.args in
    let w1 = c2.put_word-a.ensures in
    let w2 = and_both (decimal a.n) (bytes "\"><title>") w1 c1.put_then-b.ensures in
    room_after (title_of a.n a.name.now)
    (box_of a.measure a.name.now a.n (box a.x a.y a.half))
    w2 s.requires.1 (simp length-append (omega arith))

put-word-requires-2 : tie.Need-put_word-d-requires
unfolding box_of
put-word-requires-2 c κs =
    let c1 = c.before.before.before.before in
    let c2 = c1.before.before.before.before in
    let c3 = c2.before.before.before.before.before in
    let s = c3 in
    let a = s.args in
    let w1 = c3.put_word-a.ensures in
    let w2 = and_both (decimal a.n) (bytes "\"><title>") w1 c2.put_then-b.ensures in
    let w3 = and_then w2 c1.put_title-c.ensures in
    room_after (bytes "</title>")
    (box_of a.measure a.name.now a.n (box a.x a.y a.half))
    w3 s.requires.1 (simp length-append (omega arith))

put-rect-requires : tie.Need-put_rect-e-requires
unfolding box_of
put-rect-requires c κs =
    let c1 = c.before.before.before in
    let c2 = c1.before.before.before.before.before in
    let c3 = c2.before.before.before.before in
    let c4 = c3.before.before.before.before.before in
    let s = c4.before.before.before.before.before.before.before.before in
    let a = s.args in
    let w1 = c4.put_word-a.ensures in
    let w2 = and_both (decimal a.n) (bytes "\"><title>") w1 c3.put_then-b.ensures in
    let w3 = and_then w2 c2.put_title-c.ensures in
    let w4 = and_then w3 c1.put_word-d.ensures in
    rw (b-x s) (
      s.requires.0.vertex.point,
      s.requires.0.vertex.measure,
      s.requires.0.narrow,
      room_after (rect_of a.measure a.x a.y a.half)
          (box_of a.measure a.name.now a.n (box a.x a.y a.half))
          w4 s.requires.1 (simp length-append (omega arith)),
    )

put-label-requires : tie.Need-put_label-f-requires
unfolding box_of
put-label-requires c κs =
    let c1 = c.before.before.before in
    let c2 = c1.before.before.before.before in
    let c3 = c2.before.before.before.before.before in
    let c4 = c3.before.before.before.before in
    let c5 = c4.before.before.before.before.before in
    let s = c5.before.before.before.before.before.before.before.before in
    let a = s.args in
    let w1 = c5.put_word-a.ensures in
    let w2 = and_both (decimal a.n) (bytes "\"><title>") w1 c4.put_then-b.ensures in
    let w3 = and_then w2 c3.put_title-c.ensures in
    let w4 = and_then w3 c2.put_word-d.ensures in
    let w5 = and_then w4 (rw (b-x s) at c1.put_rect-e.ensures) in
    rw (b-x s) (
      in-limits s.requires.0,
      room_after (label_of a.x a.y a.half a.measure a.n a.name.now)
          (box_of a.measure a.name.now a.n (box a.x a.y a.half))
          w5 s.requires.1 (simp length-append (omega arith)),
    )

put-word-requires-3 : tie.Need-put_word-requires
unfolding box_of
put-word-requires-3 c κs =
    let c1 = c.before.before.before.before in
    let c2 = c1.before.before.before.before in
    let c3 = c2.before.before.before.before in
    let c4 = c3.before.before.before.before.before in
    let c5 = c4.before.before.before.before in
    let c6 = c5.before.before.before.before.before in
    let s = c6.before.before.before.before.before.before.before.before.before in
    let a = s.args in
    let w1 = c6.put_word-a.ensures in
    let w2 = and_both (decimal a.n) (bytes "\"><title>") w1 c5.put_then-b.ensures in
    let w3 = and_then w2 c4.put_title-c.ensures in
    let w4 = and_then w3 c3.put_word-d.ensures in
    let w5 = and_then w4 (rw (b-x s) at c2.put_rect-e.ensures) in
    let w6 = and_then w5 (rw (b-x s) at c1.put_label-f.ensures) in
    room_after (bytes "</g>\n")
    (box_of a.measure a.name.now a.n (box a.x a.y a.half))
    w6 s.requires.1 (simp length-append (omega arith))

returns : tie.Need-returns
unfolding box_of
returns c =
    let c1 = c.before.before in
    let c2 = c1.before.before.before.before.before in
    let c3 = c2.before.before.before.before in
    let c4 = c3.before.before.before.before in
    let c5 = c4.before.before.before.before.before in
    let c6 = c5.before.before.before.before in
    let c7 = c6.before.before.before.before.before in
    let s = c7.before.before.before.before.before.before.before.before.before in
    let a = s.args in
    let w1 = c7.put_word-a.ensures in
    let w2 = and_both (decimal a.n) (bytes "\"><title>") w1 c6.put_then-b.ensures in
    let w3 = and_then w2 c5.put_title-c.ensures in
    let w4 = and_then w3 c4.put_word-d.ensures in
    let w5 = and_then w4 (rw (b-x s) at c3.put_rect-e.ensures) in
    let w6 = and_then w5 (rw (b-x s) at c2.put_label-f.ensures) in
    let w7 = and_then w6 c1.put_word.ensures in
    w7

same_length : tie.Need-shape_of-out
same_length c = wrote-long (returns c)

pub put_box_spec : {M : Type 1} → statement M
put_box_spec =
    tie.close
    (tie.spec put-word-requires put-then-requires put-title-requires put-word-requires-2 put-rect-requires put-label-requires put-word-requires-3 same_length returns)
