-- What becomes of a text that may be tangled: the report of the rearranged plan, in the numbers of the text.
use Rattle.std.specs.Prelude.{List, [], ◌∷◌, ℕ}
use Rattle.ints.specs.Lists.{concat}
use Rattle.ints.specs.Refusals.{first_refusal, refuses}
use Rattle.plan_untangle.specs.Order.{order, untangled}
use Rattle.text.specs.Reading.{Reading, accepted, refused}
use Rattle.passes.specs.Drawing.{drawing_of}
use Rattle.report.specs.Lines.{report_lines}
use Rattle.report.specs.Numbers.{in_numbers}
use Rattle.sheet.specs.Tests.{test14}
use Rattle.sheet.specs.Calls.{TextOut, text_after}

unfoldable pub tangled_report_of : Reading → List ℕ → TextOut
tangled_report_of (accepted p) buffer =
    let lines = report_lines (untangled p) (in_numbers (order p) (drawing_of (untangled p))) in
    let text = concat lines in
    text_after (first_refusal (test14 text buffer ∷ [])) text buffer
tangled_report_of (refused n) buffer = record { result = refuses n; buffer = buffer }
