use Rattle.std.proofs.Common.{refl}
use Rattle.sheet.specs.Calls.{clear}
use Rattle.sheet.proofs.clear.clear.Goals as goal

pub returns : goal.returns
unfolding clear
returns c = record { answered = refl; left = c.empty.ensures }
