use mathlib.Core.Path.{◌≡◌}
use mathlib.Core.Bool.{true, false}
use native.Mathlib.Omega.{arith}
use Rattle.picture_names.proofs.NameLaws.{rest-bad, rest-good, line_refused, line_taken}
use Rattle.picture_names.proofs.index.index_lines.Goals as goal

pub returns-then-from-to : goal.returns-then-from-to
returns-then-from-to c =
    let a = c.args in let l = c.loop-from in
    rest-bad a.vias.now a.names.now l.starts l.ends l.from l.line c.end_of-to.result l.invariant.2 c.end_of-to.ensures
    c.if-to-names.true c.if-from-to.true

pub returns-then-to-names : goal.returns-then-to-names
returns-then-to-names c =
    let a = c.args in let l = c.loop-from in
    rest-good a.vias.now a.names.now l.starts l.ends l.from l.line c.end_of-to.result l.invariant.2 c.end_of-to.ensures
    c.if-to-names.true c.if-from-to.false

pub returns-then-not-index_line : goal.returns-then-not-index_line
returns-then-not-index_line c =
    let a = c.args in let l = c.loop-from in let i = c.index_line in
    let e : i.result ≡ false = c.if-not-index_line.true in
    line_refused a.vias.now a.names.now l.starts l.ends l.from l.line c.end_of-to.result l.invariant.2 c.end_of-to.ensures
    i.new.starts i.new.ends c.if-to-names.false (rw e at i.ensures)

pub loop-from-preserved : goal.loop-from-preserved
loop-from-preserved c =
    let a = c.args in let l = c.loop-from in let i = c.index_line in
    let e : i.result ≡ true = c.if-not-index_line.false in (
      omega arith,
      omega (arith, c.end_of-to.ensures.onward),
      line_taken a.vias.now a.names.now l.starts l.ends l.from l.line c.end_of-to.result l.invariant.2 c.end_of-to.ensures
          i.new.starts i.new.ends c.if-to-names.false (rw e at i.ensures),
    )
