-- `sheet_load::load::own` meets its contract: the numbers stand at the front of an array of zeros.
use mathlib.Core.Path.{sym}
use borrow.Author.Rules.{rules}
use lib.Seq.{length-take-le}
use Rattle.sheet_load.proofs.LoadLaws.{own-few, own-array}
use Rattle.sheet_load.proofs.load.own.Statement.{statement}
use Rattle.sheet_load.proofs.load.own.Tie as tie

slice-aggregate-count-up : tie.Need-slice_bounds-count_up-end
slice-aggregate-count-up c = sym (length-take-le _ _ c.requires)

count-up-requires : tie.Need-count_up-requires
count-up-requires c κs = own-few _ _ c.requires c.requires

returns : tie.Need-returns
returns c = own-array _ c.args.v c.requires c.count_up.ensures

pub own_spec : {M : Type 1} → statement M
own_spec =
    tie.close
    (tie.spec (λ c. search rules) slice-aggregate-count-up count-up-requires returns)
