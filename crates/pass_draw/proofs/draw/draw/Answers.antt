use Rattle.std.proofs.Common.{ℕ, length, ap, arith}
use Rattle.std.proofs.lemmas.List.{length-replicate}
use Rattle.passes.specs.Words.{max_listed}
use Rattle.pass_draw.proofs.draw.draw.Goals as goal

-- arrays of their length want the list
pub returns : goal.returns
returns c = λ p l. (c.make_drawing.ensures p l).made (omega (arith, c.make_drawing.auto.passes, ap length c.requires.no_passes, length-replicate {A = ℕ} max_listed 0))
