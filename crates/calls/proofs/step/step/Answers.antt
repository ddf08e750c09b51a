-- In each arm the promise of the sheet's own call, by one law an arm.
use Rattle.std.proofs.Common.{rules, ◌≡◌}
use Rattle.ints.specs.Refusals.{verdict_of}
use Rattle.calls.specs.Replies.{written, marked, reply_of, each}
use Rattle.calls.proofs.Laws.{load-steps, tangled-steps, draw-steps, clear-steps, line-steps, report-steps, text-line-steps, whole-text-steps, marks-steps, mark-steps}
use Rattle.calls.proofs.step.step.Goals as goal

pub returns-in-Load : goal.returns-in-Load
returns-in-Load c = load-steps _ _ c.in-Load.is c.load.ensures c.of_change.ensures

pub returns-in-LoadTangled : goal.returns-in-LoadTangled
returns-in-LoadTangled c = tangled-steps _ _ c.in-LoadTangled.is c.load_tangled.ensures c.of_change-in-LoadTangled.ensures

pub returns-in-Draw : goal.returns-in-Draw
returns-in-Draw c = draw-steps _ _ c.in-Draw.is c.draw.ensures c.of_change-in-Draw.ensures

pub returns-in-Line : goal.returns-in-Line
returns-in-Line c =
    let k : reply_of c.map.result ≡ each written (verdict_of c.line.result) = search rules in
    line-steps _ _ c.in-Line.is c.line.ensures k

pub returns-in-Report : goal.returns-in-Report
returns-in-Report c =
    let k : reply_of c.map-in-Report.result ≡ each written (verdict_of c.report.result) = search rules in
    report-steps _ _ c.in-Report.is c.report.ensures k

pub returns-in-TextLine : goal.returns-in-TextLine
returns-in-TextLine c =
    let k : reply_of c.map-in-TextLine.result ≡ each written (verdict_of c.text_line.result) = search rules in
    text-line-steps _ _ c.in-TextLine.is c.text_line.ensures k

pub returns-in-WholeText : goal.returns-in-WholeText
returns-in-WholeText c =
    let k : reply_of c.map-in-WholeText.result ≡ each written (verdict_of c.whole_text.result) = search rules in
    whole-text-steps _ _ c.in-WholeText.is c.whole_text.ensures k

pub returns-in-Mark : goal.returns-in-Mark
returns-in-Mark c =
    let k : reply_of c.map-in-Mark.result ≡ each marked (verdict_of c.mark.result) = search rules in
    mark-steps _ _ c.mark.result c.in-Mark.is c.mark.ensures.answered k

pub returns-in-Marks : goal.returns-in-Marks
returns-in-Marks c =
    let k : reply_of c.map-in-Marks.result ≡ each written (verdict_of c.marks.result) = search rules in
    marks-steps _ _ c.in-Marks.is c.marks.ensures.writes k

pub returns-in-Clear : goal.returns-in-Clear
returns-in-Clear c = clear-steps _ _ c.in-Clear.is c.clear.ensures c.of_change-in-Clear.ensures
