-- Named on an `unfolding` line, `report_open` opens every definition from the bytes of a text to those of its report.
use Rattle.text.proofs.Cases.{text_open}
use Rattle.passes.proofs.Open.{passes_open}
use Rattle.report.specs.Lines.{drawing_line, at_line, at_line_of, box_words, place_line, report_lines}
use Rattle.report.specs.Printed.{refused_line, printed_of, printed}

unfoldable pub report_open : Unit {0}
unfolding text_open passes_open drawing_line at_line at_line_of box_words place_line report_lines refused_line printed_of printed
report_open = tt
