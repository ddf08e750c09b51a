use Rattle.text_write.proofs.LineLaws.{level-inside}
use native.Mathlib.Omega.{arith}
use Rattle.text_write.proofs.lines.put_level.Goals as goal

pub put_row-requires : goal.put_row-requires
put_row-requires c = rw (c.total-first.ensures, c.from.ensures) (omega (arith, level-inside c.args.sizes.now c.args.l c.requires.level, c.requires.vertices), c.requires.half, c.requires.room)
