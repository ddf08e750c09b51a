use Rattle.report_lines.proofs.ByNumber.{first-line, vertex-line, vertex-room, placing-line, placing-room, last_line, few-before, fronts}
use Rattle.report_lines.proofs.numbered.put_report_line.Goals as goal

pub put_drawing-requires : goal.put_drawing-requires
put_drawing-requires c = rw (first-line c.requires c.if-n-eq0.true) at c.requires.room

pub returns-then-n-eq0 : goal.returns-then-n-eq0
returns-then-n-eq0 c = fronts c.requires (first-line c.requires c.if-n-eq0.true) c.put_drawing.ensures

pub put_at_line-requires : goal.put_at_line-requires
put_at_line-requires c = vertex-room c.requires c.if-n-eq0.false c.if-n-preliminary.true

pub returns-then-n-preliminary : goal.returns-then-n-preliminary
returns-then-n-preliminary c = fronts c.requires (vertex-line c.requires c.if-n-eq0.false c.if-n-preliminary.true) c.put_at_line.ensures

pub total-from-requires : goal.total-from-requires
total-from-requires c = few-before c.requires _ c.if-k-passes.true

pub put_listed-requires : goal.put_listed-requires
put_listed-requires c = placing-room c.requires c.if-n-preliminary.false c.if-k-passes.true c.total-from.result c.total-from.ensures

pub returns-then-k-passes : goal.returns-then-k-passes
returns-then-k-passes c = fronts c.requires (placing-line c.requires c.if-n-preliminary.false c.if-k-passes.true c.total-from.result c.total-from.ensures) c.put_listed.ensures

pub put_word-requires : goal.put_word-requires
put_word-requires c = rw (last_line c.requires c.if-n-preliminary.false c.if-k-passes.false) at c.requires.room

pub returns : goal.returns
returns c = fronts c.requires (last_line c.requires c.if-n-preliminary.false c.if-k-passes.false) c.put_word.ensures
