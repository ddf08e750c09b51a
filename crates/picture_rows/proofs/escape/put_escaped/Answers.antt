use Rattle.std.proofs.Common.{◌+◌, get_or, drop, arith}
use Rattle.report_lines.proofs.Partly.{next-room, next-written, all-written}
use Rattle.picture_rows.specs.Escape.{escaped_byte, escaped}
use Rattle.picture_rows.proofs.EscapeLaws.{escaped-on, escaped-end}
use Rattle.picture_rows.proofs.escape.put_escaped.Goals as goal

pub put_escaped_byte-at-requires : goal.put_escaped_byte-at-requires
put_escaped_byte-at-requires c =
    let text = c.args.text.now in let l = c.loop-b in let i = l.b-index in
    next-room (escaped_byte (get_or text i 0)) (escaped (drop (i + 1) text)) (escaped-on text i c.loop-b-test.true) l.invariant c.requires

pub loop-b-preserved : goal.loop-b-preserved
loop-b-preserved c =
    let text = c.args.text.now in let l = c.loop-b in let i = l.b-index in
    next-written (escaped_byte (get_or text i 0)) (escaped (drop (i + 1) text)) (escaped-on text i c.loop-b-test.true) l.invariant c.put_escaped_byte-at.ensures

pub returns : goal.returns
returns c = all-written (escaped-end c.args.text.now c.loop-b.b-index (omega arith)) c.loop-b.invariant
