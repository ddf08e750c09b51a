-- A space, and the number with its sign.
use mathlib.Core.Path.{◌≡◌, ◌∙◌, ap}
use lib.IntN.{nat_abs}
use Rattle.ints.proofs.Laws.{back}
use Rattle.text.specs.Decimal.{signed}
use Rattle.text_write.proofs.Written.{and_then, room-then}
use Rattle.script_answers.proofs.ByCase.{signed_is}
use Rattle.script_answers.proofs.words.put_position.Goals as goal

pub put_marked-requires : goal.put_marked-requires
put_marked-requires c =
    let x = c.args.x in
    let size : c.unsigned_abs.result ≡ nat_abs x = c.unsigned_abs.ensures.value ∙ ap nat_abs (back c.ranges.x) in
    simp (size, back c.ranges.x) (rw (signed_is x) at (room-then (signed x) c.put_word-next.ensures c.requires))

pub returns : goal.returns
returns c =
    let x = c.args.x in
    let size : c.unsigned_abs.result ≡ nat_abs x = c.unsigned_abs.ensures.value ∙ ap nat_abs (back c.ranges.x) in
    and_then c.put_word-next.ensures (rw (signed_is x) (simp (size, back c.ranges.x) at c.put_marked.ensures))
