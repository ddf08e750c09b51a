use Rattle.text_write.proofs.Written.{front_of}
use native.Mathlib.Omega.{arith}
use Rattle.text_write.proofs.lines.line.Goals as goal

pub returns : goal.returns
returns c = front_of c.put_line.ensures (omega (arith, c.requires.room))
