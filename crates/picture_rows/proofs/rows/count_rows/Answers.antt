use Rattle.std.proofs.Common.{◌≡◌, ◌-◌, length, drop, ap, ◌∙◌, arith}
use Rattle.picture_rows.specs.Rows.{rows}
use Rattle.picture_rows.proofs.RowLaws.{no_rows, rows_end}
use Rattle.picture_rows.proofs.rows.count_rows.Goals as goal

pub returns-then-name-start : goal.returns-then-name-start
returns-then-name-start c =
    let a = c.args in let l = c.loop-count in
    omega (arith, l.invariant.1, ap length (rows_end a.cols (a.most - l.count) a.name.now l.start c.if-name-start.true))

pub returns : goal.returns
returns c =
    let a = c.args in let l = c.loop-count in
    let z : a.most - l.count ≡ 0 = omega arith in
    omega (arith, l.invariant.1, ap (λ n. length (rows a.cols n (drop l.start a.name.now))) z ∙ ap length (no_rows a.cols (drop l.start a.name.now)))
