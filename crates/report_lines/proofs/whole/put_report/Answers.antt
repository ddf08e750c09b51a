use Rattle.report_lines.proofs.AllLines.{drawing-room, at_room, place-room, end-room, report-fronts}
use Rattle.report_lines.proofs.whole.put_report.Goals as goal

pub put_drawing-at_lines-requires : goal.put_drawing-at_lines-requires
put_drawing-at_lines-requires c = drawing-room c.requires

pub put_at_lines-place_lines-requires : goal.put_at_lines-place_lines-requires
put_at_lines-place_lines-requires c = at_room c.requires c.put_drawing-at_lines.ensures

pub put_placings-end-requires : goal.put_placings-end-requires
put_placings-end-requires c = place-room c.requires c.put_drawing-at_lines.ensures c.put_at_lines-place_lines.ensures

pub put_word-requires : goal.put_word-requires
put_word-requires c = end-room c.requires c.put_drawing-at_lines.ensures c.put_at_lines-place_lines.ensures c.put_placings-end.ensures

pub returns : goal.returns
returns c = report-fronts c.requires c.put_drawing-at_lines.ensures c.put_at_lines-place_lines.ensures c.put_placings-end.ensures c.put_word.ensures
