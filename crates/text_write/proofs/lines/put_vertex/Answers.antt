use native.Mathlib.Omega.{arith}
use mathlib.Core.Bool.{false}
use mathlib.Core.List.{◌++◌}
use lib.ListN.{length-append}
use Rattle.text.specs.Bytes.{bytes}
use Rattle.text.specs.Decimal.{decimal}
use Rattle.text.specs.Writing.{vertex_words}
use Rattle.text_write.specs.inner.Data.{words_of}
use Rattle.text_write.proofs.Written.{wrote_none, and_both, room_after}
use Rattle.text_write.proofs.lines.put_vertex.Goals as goal

pub put_word-requires : goal.put_word-requires
unfolding vertex_words
put_word-requires c = rw c.if-via.true at c.requires

pub returns-then-via : goal.returns-then-via
unfolding vertex_words
returns-then-via c = rw c.if-via.true c.put_word.ensures

pub put_word-h-requires : goal.put_word-h-requires
unfolding vertex_words
put_word-h-requires c = room_after (bytes " (box ") (words_of false c.args.half) (wrote_none c.args.out.now c.args.at) (rw c.if-via.false at c.requires) (simp length-append (omega arith))

pub put_then-requires : goal.put_then-requires
unfolding vertex_words
put_then-requires c = rw c.from.ensures (room_after (decimal c.args.half ++ bytes ")") (words_of false c.args.half) c.put_word-h.ensures (rw c.if-via.false at c.requires) (simp length-append (omega arith)))

pub returns : goal.returns
unfolding vertex_words
returns c =
    let t = rw c.from.ensures at c.put_then.ensures in
    rw c.if-via.false (and_both (decimal c.args.half) (bytes ")") c.put_word-h.ensures t)
