use Prim.Native.Nat.{◌*◌}
use Rattle.text.specs.Bytes.{bytes}
use Rattle.text_write.proofs.Written.{and_then, and_both}
use Rattle.picture_numbers.specs.Thousandths.{amount}
use Rattle.picture_marks.proofs.document.put_document.Goals as goal

pub returns : goal.returns
returns c =
    let a = c.args in
    let w1 = c.put_opening-a.ensures in
    let w2 = and_then w1 c.put_lines-b.ensures in
    let w3 = and_then w2 c.put_word-c.ensures in
    let w4 = and_then w3 c.put_bends-d.ensures in
    let w5 = and_both (bytes "</g>\n<g class=\"boxes\" stroke-width=\"") (amount (20 * a.measure)) w4 c.put_measured-e.ensures in
    let w6 = and_then w5 c.put_word-f.ensures in
    let w7 = and_then w6 c.put_boxes-g.ensures in
    let w8 = and_then w7 c.put_word.ensures in
    w8
