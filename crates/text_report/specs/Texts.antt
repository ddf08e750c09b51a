-- What becomes of a text: its report in a lent buffer.
use Rattle.std.specs.Prelude.{List, [], ◌∷◌, ℕ}
use Rattle.ints.specs.Lists.{concat}
use Rattle.ints.specs.Refusals.{first_refusal, refuses}
use Rattle.text.specs.Reading.{Reading, accepted, refused}
use Rattle.passes.specs.Drawing.{drawing_of}
use Rattle.report.specs.Lines.{report_lines}
use Rattle.sheet.specs.Tests.{test14}
use Rattle.sheet.specs.Calls.{TextOut, text_after}

-- All report lines of the text's plan, if the buffer has room for them. A text that is refused leaves the buffer as it is.
unfoldable pub report_of : Reading → List ℕ → TextOut
report_of (accepted p) buffer =
    let text = concat (report_lines p (drawing_of p)) in
    text_after (first_refusal (test14 text buffer ∷ [])) text buffer
report_of (refused n) buffer = record { result = refuses n; buffer = buffer }
