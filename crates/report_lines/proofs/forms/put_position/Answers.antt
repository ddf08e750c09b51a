use Rattle.ints.proofs.Laws.{back}
use Rattle.text_write.proofs.Written.{and_then}
use Rattle.report_lines.proofs.forms.put_position.Goals as goal

pub returns : goal.returns
returns c = and_then (rw (back c.ranges.z) at c.put_signed-next.ensures) c.put_word.ensures
