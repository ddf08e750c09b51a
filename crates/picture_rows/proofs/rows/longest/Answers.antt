use Rattle.std.proofs.Common.{rules, ◌≡◌, ◌+◌, get_or, take, ap, arith, sym, ◌∙◌}
use borrow.Author.Tests.{le-leb, lt-leb}
use Rattle.picture_rows.specs.Rows.{columns}
use Rattle.picture_rows.specs.inner.Found.{stops}
use Rattle.picture_rows.proofs.ColumnLaws.{columns-none, columns-next}
use Rattle.picture_rows.proofs.RowLaws.{ends_at, last_none, last_step, longest-all, longest-under}
use Rattle.picture_rows.proofs.rows.longest.Goals as goal
use Rattle.picture_rows.proofs.rows.longest.Goals.{then-is_stop+then-wide-most, else-is_stop, else-is_stop-via-then-is_stop+else-wide-most, else-is_stop-via-else-is_stop}

pub loop-i-init : goal.loop-i-init
loop-i-init c = let a = c.args in (omega arith, sym columns-none, sym (last_none (ends_at (stops a.words) a.most a.name.now)))

pub loop-i-preserved : goal.loop-i-preserved
loop-i-preserved c =
    let a = c.args in
    let name = a.name.now in
    let l = c.loop-i in
    let cols = c.columns_of-wide in
    let wide : l.wide + cols.result ≡ columns (take (l.i + 1) name) = omega (arith, cols.ensures.0, l.invariant.1, columns-next name l.i c.loop-i-test.true) in
    let next : c.unwrap_or-next.result ≡ get_or name (l.i + 1) 32 = search rules in
    let stop = sym (c.is_stop.ensures ∙ ap (stops a.words) next) in
    let step = last_step (stops a.words) a.most name l.i (l.wide + cols.result) l.end wide l.invariant.2 in (
      omega (arith, cols.ensures.1, l.invariant.0),
      wide,
      elim c.if-is_stop.branch [
        | then-is_stop+then-wide-most w ↦ w.end-is ∙ rw (stop ∙ w.if-is_stop.true, le-leb _ _ w.if-wide-most.true) at step
        | else-is_stop w ↦ elim w.else-is_stop.branch [
          | else-is_stop-via-then-is_stop+else-wide-most v ↦ w.end-is ∙ rw (stop ∙ v.if-is_stop.true, lt-leb _ _ v.if-wide-most.false) at step
          | else-is_stop-via-else-is_stop v ↦ w.end-is ∙ rw (stop ∙ v.if-is_stop.false) at step
        ]
      ],
    )

pub returns : goal.returns
returns c =
    let l = c.loop-i in let a = c.args in let name = a.name.now in
    let e = l.invariant.2 ∙ longest-all (stops a.words) a.most name l.i (omega arith) in
    (e, omega (arith, e, longest-under (stops a.words) a.most name))
