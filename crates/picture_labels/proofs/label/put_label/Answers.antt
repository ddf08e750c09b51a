use Rattle.std.proofs.Common.{sym, ◌∙◌}
use borrow.Author.Tests.{eqb-true, eqb-false}
use native.Mathlib.Omega.{arith}
use Rattle.ints.proofs.Laws.{back}
use Rattle.picture_labels.proofs.LabelLaws.{label-none, label-name}
use Rattle.picture_labels.proofs.label.put_label.Goals as goal

pub put_number-requires : goal.put_number-requires
put_number-requires c =
    let a = c.args in
    rw (back c.ranges.x) (c.requires.0, rw (label-none a.number a.x a.y a.hw a.measure a.name.now (eqb-true _ _ (sym c.is_empty.ensures ∙ c.if-is_empty.true))) at c.requires.1)

pub put_name-requires : goal.put_name-requires
put_name-requires c =
    let a = c.args in let l = c.requires.0 in
    rw (back c.ranges.x) (
      record { across = l.across; down = l.down; half = l.half; measure = l.measure; numbered = omega arith },
      rw (label-name a.number a.x a.y a.hw a.measure a.name.now (eqb-false _ _ (sym c.is_empty.ensures ∙ c.if-is_empty.false))) at c.requires.1,
    )

pub returns : goal.returns
returns c =
    let a = c.args in
    rw (label-name a.number a.x a.y a.hw a.measure a.name.now (eqb-false _ _ (sym c.is_empty.ensures ∙ c.if-is_empty.false))) (rw (back c.ranges.x) at c.put_name.ensures)

pub returns-then-is_empty : goal.returns-then-is_empty
returns-then-is_empty c =
    let a = c.args in
    rw (label-none a.number a.x a.y a.hw a.measure a.name.now (eqb-true _ _ (sym c.is_empty.ensures ∙ c.if-is_empty.true))) (rw (back c.ranges.x) at c.put_number.ensures)
