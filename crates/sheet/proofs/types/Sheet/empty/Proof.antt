-- `sheet::types::Sheet::empty` meets its contract: by its definition.
use borrow.Author.Rules.{rules}
use Rattle.sheet.specs.Sheet.{empty_sheet}
use Rattle.sheet.proofs.types.Sheet.empty.Statement.{statement}
use Rattle.sheet.proofs.types.Sheet.empty.Tie as tie

returns : tie.Need-returns
unfolding empty_sheet
returns c = rw (c.empty.ensures, c.empty-2.ensures)

pub empty_spec : {M : Type 1} → statement M
empty_spec = tie.close
    (tie.spec (λ c κs. search rules) (λ c κs. search rules) returns)
