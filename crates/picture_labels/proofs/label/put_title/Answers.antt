use Rattle.std.proofs.Common.{sym, ◌∙◌}
use borrow.Author.Tests.{eqb-true, eqb-false}
use mathlib.Core.List.{◌++◌}
use Rattle.text.specs.Bytes.{bytes}
use Rattle.text.specs.Decimal.{decimal}
use Rattle.text_write.proofs.Written.{and_then, room-first, room-then}
use Rattle.picture_rows.specs.Escape.{escaped}
use Rattle.picture_labels.proofs.LabelLaws.{title-none, title-name}
use Rattle.picture_labels.proofs.label.put_title.Goals as goal

pub put_decimal-requires : goal.put_decimal-requires
put_decimal-requires c = let a = c.args in rw (title-none a.number a.name.now (eqb-true _ _ (sym c.is_empty.ensures ∙ c.if-is_empty.true))) at c.requires

pub put_then-next-requires : goal.put_then-next-requires
put_then-next-requires c =
    let a = c.args in
    room-first (decimal a.number ++ bytes " ") (escaped a.name.now) a.out.now a.at (rw (title-name a.number a.name.now (eqb-false _ _ (sym c.is_empty.ensures ∙ c.if-is_empty.false))) at c.requires)

pub put_escaped-requires : goal.put_escaped-requires
put_escaped-requires c =
    let a = c.args in
    room-then (escaped a.name.now) c.put_then-next.ensures (rw (title-name a.number a.name.now (eqb-false _ _ (sym c.is_empty.ensures ∙ c.if-is_empty.false))) at c.requires)

pub returns : goal.returns
returns c =
    let a = c.args in rw (title-name a.number a.name.now (eqb-false _ _ (sym c.is_empty.ensures ∙ c.if-is_empty.false))) (and_then c.put_then-next.ensures c.put_escaped.ensures)

pub returns-then-is_empty : goal.returns-then-is_empty
returns-then-is_empty c = let a = c.args in rw (title-none a.number a.name.now (eqb-true _ _ (sym c.is_empty.ensures ∙ c.if-is_empty.true))) c.put_decimal.ensures
