use native.Mathlib.Omega.{arith}
use mathlib.Core.List.{◌++◌}
use lib.ListN.{length-append}
use Rattle.text.specs.Bytes.{bytes}
use Rattle.text.specs.Decimal.{decimal}
use Rattle.text.specs.Writing.{rating_words, segment_line_of}
use Rattle.text_write.specs.inner.Data.{rated_segment}
use Rattle.text_write.proofs.Written.{wrote_none, and_then, and_both, room_after}
use Rattle.text_write.proofs.lines.put_segment.Goals as goal

pub put_word-a-requires : goal.put_word-a-requires
unfolding segment_line_of
put_word-a-requires c =
    room_after (bytes "(seg ") (segment_line_of (rated_segment c.args.upper c.args.lower c.args.rating)) (wrote_none c.args.out.now c.args.at) c.requires (simp length-append (omega arith))

pub put_then-b-requires : goal.put_then-b-requires
unfolding segment_line_of
put_then-b-requires c =
    rw c.from.ensures (room_after (decimal c.args.upper ++ bytes " ") (segment_line_of (rated_segment c.args.upper c.args.lower c.args.rating)) c.put_word-a.ensures c.requires (simp length-append (omega arith)))

pub put_decimal-w-requires : goal.put_decimal-w-requires
unfolding segment_line_of
put_decimal-w-requires c =
    let b = rw c.from.ensures at c.put_then-b.ensures in
    rw c.from-2.ensures (room_after (decimal c.args.lower) (segment_line_of (rated_segment c.args.upper c.args.lower c.args.rating)) (and_then c.put_word-a.ensures b) c.requires (simp length-append (omega arith)))

pub put_rating-end-requires : goal.put_rating-end-requires
unfolding segment_line_of
put_rating-end-requires c =
    let b = rw c.from.ensures at c.put_then-b.ensures in
    let w = rw c.from-2.ensures at c.put_decimal-w.ensures in
    room_after (rating_words c.args.rating) (segment_line_of (rated_segment c.args.upper c.args.lower c.args.rating)) (and_then (and_then c.put_word-a.ensures b) w) c.requires (simp length-append (omega arith))

pub put_word-requires : goal.put_word-requires
unfolding segment_line_of
put_word-requires c =
    let b = rw c.from.ensures at c.put_then-b.ensures in
    let w = rw c.from-2.ensures at c.put_decimal-w.ensures in
    room_after (bytes ")\n") (segment_line_of (rated_segment c.args.upper c.args.lower c.args.rating)) (and_then (and_then (and_then c.put_word-a.ensures b) w) c.put_rating-end.ensures) c.requires
    (simp length-append (omega arith))

pub returns : goal.returns
unfolding segment_line_of
returns c =
    let b = rw c.from.ensures at c.put_then-b.ensures in
    let w = rw c.from-2.ensures at c.put_decimal-w.ensures in
    and_then (and_then (and_then (and_both (decimal c.args.upper) (bytes " ") c.put_word-a.ensures b) w) c.put_rating-end.ensures) c.put_word.ensures
