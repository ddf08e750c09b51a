use native.Mathlib.Omega.{arith}
use mathlib.Core.List.{◌++◌}
use lib.ListN.{length-append}
use Rattle.text.specs.Bytes.{bytes}
use Rattle.text.specs.Decimal.{decimal}
use Rattle.text.specs.Writing.{plan_line}
use Rattle.text_write.specs.inner.Data.{numbers_of}
use Rattle.text_write.proofs.Written.{wrote_none, and_then, and_both, room_after}
use Rattle.text_write.proofs.lines.put_plan.Goals as goal

pub put_word-k-requires : goal.put_word-k-requires
unfolding plan_line
put_word-k-requires c = room_after (bytes "(plan ") (plan_line (numbers_of c.args.levels c.args.gap c.args.spacing)) (wrote_none c.args.out.now c.args.at) c.requires (simp length-append (omega arith))

pub put_then-g-requires : goal.put_then-g-requires
unfolding plan_line
put_then-g-requires c = rw c.from.ensures (room_after (decimal c.args.levels ++ bytes " ") (plan_line (numbers_of c.args.levels c.args.gap c.args.spacing)) c.put_word-k.ensures c.requires (simp length-append (omega arith)))

pub put_then-s-requires : goal.put_then-s-requires
unfolding plan_line
put_then-s-requires c =
    let g = rw c.from.ensures at c.put_then-g.ensures in
    rw c.from-2.ensures (room_after (decimal c.args.gap ++ bytes " ") (plan_line (numbers_of c.args.levels c.args.gap c.args.spacing)) (and_then c.put_word-k.ensures g) c.requires (simp length-append (omega arith)))

pub put_then-requires : goal.put_then-requires
unfolding plan_line
put_then-requires c =
    let g = rw c.from.ensures at c.put_then-g.ensures in
    let s = rw c.from-2.ensures at c.put_then-s.ensures in
    rw c.from-3.ensures (room_after (decimal c.args.spacing ++ bytes ")\n") (plan_line (numbers_of c.args.levels c.args.gap c.args.spacing)) (and_then (and_then c.put_word-k.ensures g) s) c.requires (simp length-append (omega arith)))

pub returns : goal.returns
unfolding plan_line
returns c =
    let g = rw c.from.ensures at c.put_then-g.ensures in
    let s = rw c.from-2.ensures at c.put_then-s.ensures in
    let t = rw c.from-3.ensures at c.put_then.ensures in
    and_both (decimal c.args.spacing) (bytes ")\n") (and_both (decimal c.args.gap) (bytes " ") (and_both (decimal c.args.levels) (bytes " ") c.put_word-k.ensures g) s) t
