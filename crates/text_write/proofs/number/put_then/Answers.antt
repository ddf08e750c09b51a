use native.Mathlib.Omega.{arith}
use mathlib.Core.List.{◌++◌}
use lib.ListN.{length-append}
use Rattle.text.specs.Decimal.{decimal}
use Rattle.text_write.proofs.Written.{wrote_none, and_then, room_after}
use Rattle.text_write.proofs.number.put_then.Goals as goal

pub put_decimal-next-requires : goal.put_decimal-next-requires
put_decimal-next-requires c = room_after (decimal c.args.n) (decimal c.args.n ++ c.args.word.now) (wrote_none c.args.out.now c.args.at) c.requires (simp length-append (omega arith))

pub put_word-requires : goal.put_word-requires
put_word-requires c = room_after c.args.word.now (decimal c.args.n ++ c.args.word.now) c.put_decimal-next.ensures c.requires (simp length-append (omega arith))

pub returns : goal.returns
returns c = and_then c.put_decimal-next.ensures c.put_word.ensures
