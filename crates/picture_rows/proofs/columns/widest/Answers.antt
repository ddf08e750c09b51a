use Rattle.std.proofs.Common.{arith, sym, ◌∙◌}
use Rattle.picture_rows.proofs.ColumnLaws.{at-space, at_byte, widest-begin, widest-end}
use Rattle.picture_rows.proofs.columns.widest.Goals as goal
use Rattle.picture_rows.proofs.columns.widest.Goals.{then-b-eq32, else-b-eq32}

pub loop-b-init : goal.loop-b-init
loop-b-init c = (omega arith, widest-begin c.args.name.now)

pub loop-b-preserved : goal.loop-b-preserved
loop-b-preserved c =
    let name = c.args.name.now in
    let l = c.loop-b in
    elim c.if-b-eq32.branch [
      | then-b-eq32 w ↦ (
        omega arith,
        rw (w.most-is, w.wide-is, w.max-most.ensures) (sym (at-space name l.b-index l.most l.wide c.loop-b-test.true w.if-b-eq32.true) ∙ l.invariant.1),
      )
      | else-b-eq32 w ↦ (
        omega (arith, w.columns_of-wide.ensures.1),
        rw (w.most-is, w.wide-is, w.columns_of-wide.ensures.0) (sym (at_byte name l.b-index l.most l.wide c.loop-b-test.true w.if-b-eq32.false) ∙ l.invariant.1),
      )
    ]

pub returns : goal.returns
returns c =
    let l = c.loop-b in
    c.max.ensures ∙ sym (widest-end c.args.name.now l.b-index l.most l.wide c.loop-b-test.false) ∙ l.invariant.1
