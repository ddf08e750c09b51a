use Rattle.std.proofs.Common.{◌-◌, sym, ◌∙◌, arith}
use borrow.Author.Tests.{le-leb, lt-ltb}
use Rattle.pass_tables.specs.inner.Tables.{next_via}
use Rattle.pass_tables.proofs.RunLaws.{next}
use Rattle.report_validity.proofs.Walks.{ends-count}
use Rattle.report_validity.proofs.runs.is_whole.Goals as goal

pub overflow_sub-result : goal.overflow_sub-result
overflow_sub-result c = let a = c.args in omega (arith, c.run_end.ensures, (next a.vias.now a.first (a.to - a.first)).low)

pub returns : goal.returns
returns c =
    let a = c.args in
    let n = next a.vias.now a.first (a.to - a.first) in
    rw (le-leb _ _ c.if-first-start.false, lt-ltb _ _ c.if-first-to.false, sym c.starts_run.ensures ∙ c.if-not-starts_run.false, c.run_end.ensures)
    (ends-count (next_via a.vias.now a.first (a.to - a.first)) a.first a.count n.low)
