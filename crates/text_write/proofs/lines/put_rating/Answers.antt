use native.Mathlib.Omega.{arith}
use borrow.Author.Tests.{eq-eqb, ne_eqb}
use mathlib.Core.List.{◌++◌}
use lib.ListN.{length-append}
use Rattle.text.specs.Bytes.{bytes}
use Rattle.text.specs.Decimal.{decimal}
use Rattle.text.specs.Writing.{rating_words}
use Rattle.text_write.proofs.Written.{wrote_none, and_then, room_after}
use Rattle.text_write.proofs.lines.put_rating.Goals as goal

pub returns-then-rating-eq1 : goal.returns-then-rating-eq1
unfolding rating_words
returns-then-rating-eq1 c = rw (eq-eqb _ _ c.if-rating-eq1.true) (wrote_none c.args.out.now c.args.at)

pub put_word-w-requires : goal.put_word-w-requires
unfolding rating_words
put_word-w-requires c =
    room_after (bytes " ") (bytes " " ++ decimal c.args.rating) (wrote_none c.args.out.now c.args.at) (rw (ne_eqb _ _ c.if-rating-eq1.false) at c.requires)
    (simp length-append (omega arith))

pub put_decimal-requires : goal.put_decimal-requires
unfolding rating_words
put_decimal-requires c =
    rw c.from.ensures
    (room_after (decimal c.args.rating) (bytes " " ++ decimal c.args.rating) c.put_word-w.ensures (rw (ne_eqb _ _ c.if-rating-eq1.false) at c.requires)
    (simp length-append (omega arith)))

pub returns : goal.returns
unfolding rating_words
returns c =
    let d = rw c.from.ensures at c.put_decimal.ensures in
    rw (ne_eqb _ _ c.if-rating-eq1.false) (and_then c.put_word-w.ensures d)
