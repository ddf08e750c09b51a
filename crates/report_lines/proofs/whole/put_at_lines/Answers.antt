use Rattle.std.proofs.Common.{◌∙◌}
use lib.Seq.{length-take-le}
use Rattle.report_lines.proofs.AllLines.{lines_same, vertices-room}
use Rattle.report_lines.proofs.whole.put_at_lines.Goals as goal

pub put_vertices-requires : goal.put_vertices-requires
put_vertices-requires c = vertices-room c.requires c.heights.new.out (c.heights.auto.out ∙ length-take-le _ _ c.requires.lists.in_limit) c.heights.ensures

pub returns : goal.returns
returns c = rw (lines_same c.requires c.heights.new.out (c.heights.auto.out ∙ length-take-le _ _ c.requires.lists.in_limit) c.heights.ensures) at c.put_vertices.ensures
