use native.Mathlib.Omega.{arith}
use Rattle.ints.proofs.Laws.{back}
use Rattle.picture_rows.proofs.Within.{rows_few}
use Rattle.picture_labels.proofs.SizeLaws.{name-some, columns-some, centred-is}
use Rattle.picture_labels.proofs.label.put_name.Goals as goal

pub columns_in-cols-requires : goal.columns_in-cols-requires
columns_in-cols-requires c =
    let a = c.args in rw c.name_size-size.ensures (name-some a.hw a.measure a.name.now c.requires.0.half.0 c.requires.0.measure.0)

pub count_rows-count-requires : goal.count_rows-count-requires
count_rows-count-requires c = rw (c.columns_in-cols.ensures, c.name_size-size.ensures) (columns-some c.args.hw c.args.measure c.args.name.now c.requires.0.half.0 c.requires.0.measure.0)

pub overflow_sub-count : goal.overflow_sub-count
overflow_sub-count c =
    omega (arith, c.count_rows-count.ensures, rows_few c.columns_in-cols.result 3 c.args.name.now)

pub put_rows-requires : goal.put_rows-requires
put_rows-requires c =
    let a = c.args in let n = a.name.now in let size = c.name_size-size in let cols = c.columns_in-cols in let count = c.count_rows-count in
    rw (back c.ranges.x) (
      omega (arith, c.requires.0.across),
      omega (arith, c.requires.0.down),
      omega arith,
      rw (c.columns_in-cols.ensures, c.name_size-size.ensures) (columns-some c.args.hw c.args.measure c.args.name.now c.requires.0.half.0 c.requires.0.measure.0),
      rw (centred-is a.hw a.measure n a.x a.y size.result cols.result count.result size.ensures cols.ensures count.ensures) c.requires.1,
    )

pub returns : goal.returns
returns c =
    let a = c.args in let n = a.name.now in let size = c.name_size-size in let cols = c.columns_in-cols in let count = c.count_rows-count in
    rw (centred-is a.hw a.measure n a.x a.y size.result cols.result count.result size.ensures cols.ensures count.ensures)
    at (rw (back c.ranges.x) at c.put_rows.ensures)
