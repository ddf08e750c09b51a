use Rattle.std.proofs.Common.{drop}
use Rattle.report_lines.proofs.Partly.{Partly}
use Rattle.picture_rows.specs.Escape.{escaped}
use Rattle.picture_rows.proofs.escape.put_escaped.Given as goal

-- the first bytes are written, and the others are left
abbrev pub invariant-loop-b : goal.invariant-loop-b
invariant-loop-b l = Partly (escaped l.text) (escaped (drop l.b-index l.text)) l.fn.out l.from l.at l.out
