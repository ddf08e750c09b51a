-- `report::data::Drawing::empty` meets its contract: each array is made as a repeat.
use mathlib.Core.Path.{refl}
use Rattle.passes.specs.Words.{boxes_listed}
use Rattle.report.specs.Arrays.{arrays_of}
use Rattle.report.proofs.data.Drawing.empty.Statement.{statement}
use Rattle.report.proofs.data.Drawing.empty.Tie as tie

returns : tie.Need-returns
unfolding arrays_of boxes_listed
returns c = refl

pub empty_spec : {M : Type 1} → statement M
empty_spec = tie.close
    (tie.spec returns)
