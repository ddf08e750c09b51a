use mathlib.Core.List.{[], ◌∷◌, ◌++◌, append-nil}
use native.Mathlib.Omega.{arith}
use lib.ListN.{length-append}
use Rattle.ints.proofs.Laws.{back}
use Rattle.text.specs.Bytes.{bytes}
use Rattle.text.specs.Decimal.{decimal, signed}
use Rattle.text_write.proofs.Written.{wrote_none, and_then, and_both, room_after}
use Rattle.report.specs.Lines.{box_words}
use Rattle.report_lines.specs.inner.Forms.{box_at}
use Rattle.report_lines.proofs.forms.put_box.Goals as goal

pub put_word-n-requires : goal.put_word-n-requires
unfolding box_words
put_word-n-requires c = let a = c.args in
    room_after (bytes " (") (box_words (box_at a.vertex a.position ∷ [])) (wrote_none a.out.now a.at) c.requires.1 (simp length-append (omega arith))

pub put_then-x-requires : goal.put_then-x-requires
unfolding box_words
put_then-x-requires c = let a = c.args in
    room_after (decimal a.vertex ++ bytes " ") (box_words (box_at a.vertex a.position ∷ [])) c.put_word-n.ensures c.requires.1 (simp length-append (omega arith))

pub put_position-requires : goal.put_position-requires
unfolding box_words
put_position-requires c = let a = c.args in
    let h = and_then c.put_word-n.ensures c.put_then-x.ensures in
    rw (back c.ranges.position) (c.requires.0, room_after (signed a.position ++ bytes ")") (box_words (box_at a.vertex a.position ∷ [])) h c.requires.1 (simp length-append (omega arith)))

pub returns : goal.returns
unfolding box_words
returns c = let a = c.args in
    let number = and_both (decimal a.vertex) (bytes " ") c.put_word-n.ensures c.put_then-x.ensures in
    rw append-nil (and_both (signed a.position) (bytes ")") number (rw (back c.ranges.position) at c.put_position.ensures))
