-- What the counter program prints: "all report lines, or the one line `(refused N)`".
use Rattle.std.specs.Prelude.{List, ◌++◌, ℕ}
use Rattle.ints.specs.Lists.{concat}
use Rattle.text.specs.Bytes.{bytes}
use Rattle.text.specs.Decimal.{decimal}
use Rattle.text.specs.Reading.{Reading, accepted, refused, reading}
use Rattle.passes.specs.Drawing.{drawing_of}
use Rattle.report.specs.Lines.{report_lines}

unfoldable pub refused_line : ℕ → List ℕ
refused_line n = bytes "(refused " ++ decimal n ++ bytes ")\n"

unfoldable pub printed_of : Reading → List ℕ
printed_of (accepted p) = concat (report_lines p (drawing_of p))
printed_of (refused n) = refused_line n

-- From the bytes of standard input to those of standard output.
unfoldable pub printed : List ℕ → List ℕ
printed s = printed_of (reading s)
