use native.Mathlib.Omega.{arith}
use Rattle.picture_rows.proofs.RowLaws.{cut-none, cut-space, cut-plain}
use Rattle.picture_rows.proofs.rows.cut_end.Goals as goal

pub returns-then-end-eq0 : goal.returns-then-end-eq0
returns-then-end-eq0 c =
    let a = c.args in let e = c.longest-end in (cut-none a.most a.name.now e.result e.ensures.0 c.if-end-eq0.true, omega arith)

pub returns-then-name-before-eq32 : goal.returns-then-name-before-eq32
returns-then-name-before-eq32 c =
    let a = c.args in let e = c.longest-end in
    (cut-space a.most a.name.now e.result e.ensures.0 c.if-name-before-eq32.true, omega (arith, e.ensures.1))

pub returns : goal.returns
returns c =
    let a = c.args in let e = c.longest-end in (cut-plain a.most a.name.now e.result e.ensures.0 c.if-name-before-eq32.false, e.ensures.1)
